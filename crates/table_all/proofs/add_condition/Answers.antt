-- `add_condition` meets its contract. Assumes nothing.
use Prim.Native.Nat.{◌+◌, ◌*◌, ◌/◌, ◌%◌}
use native.Mathlib.Omega.{arith}
use Rattle.table_all.proofs.Conditions.{bit_added}
use Rattle.table_all.proofs.add_condition.Goals as goal

pub returns : goal.returns
returns c =
    let a = c.args in
    rw c.from.ensures (bit_added a.conds.now (a.t * 6 + a.value / 64) (a.value % 64) (omega arith))
