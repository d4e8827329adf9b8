-- `plan_rules_later::refuses` meets its contract. Assumes nothing.
use lib.ListN.{length}
use Prim.Native.Nat.{ℕ, ◌<◌, ◌≤◌}
use mathlib.Core.Path.{◌≡◌}
use Rattle.plan_rules_later.specs.declared.Step.{Step}
use Rattle.plan_rules_later.proofs.Table.{Tried}
use Rattle.plan_rules_later.proofs.refuses.Given as goal

abbrev pub invariant-loop-i : goal.invariant-loop-i
invariant-loop-i g l = (l.i ≤ l.n) × (length l.table ≡ 256)
    × ((s : ℕ → Step) → ((i : ℕ) (x : Step) → i < l.n → goal.F-post g l.fn.step i x → x ≡ s i)
    → Tried l.n s l.i l.table)
