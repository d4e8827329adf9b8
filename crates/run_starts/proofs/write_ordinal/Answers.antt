-- `write_ordinal` meets its contract. Assumes nothing.
use mathlib.Core.Path.{◌≡◌, sym}
use Prim.Native.Nat.{◌+◌, ◌-◌, ◌/◌, ◌%◌}
use native.Mathlib.Omega.{arith}
use Rattle.run_starts.specs.Starts.{ordinal_at}
use Rattle.run_starts.specs.Inner.{with_ordinal}
use Rattle.run_starts.proofs.Ordinals.{two_written}
use Rattle.run_starts.proofs.write_ordinal.Goals as goal

pub returns : goal.returns
unfolding with_ordinal ordinal_at
returns c =
    let at = c.ordinal_at-at.result in
    let g : at + 2 - at ≡ 2 = omega arith in
    let h : c.args.k / 256 % 256 ≡ c.args.k / 256 = omega arith in
    rw (c.copy_from_slice.ensures.after, c.to_le_bytes.ensures, g, h, ← c.ordinal_at-at.ensures)
    (sym (two_written c.args.state.now at _ _ (omega arith)))
