-- `write_row` meets its contract: the words below k are written, and no other row is changed. Assumes nothing.
use mathlib.Core.Path.{◌≡◌}
use Prim.Native.Nat.{ℕ, ◌<◌}
use lib.ListN.{length, get_or}
use Rattle.marks_row.specs.Columns.{word_at}
use Rattle.marks_row.proofs.write_row.Given as goal

abbrev pub invariant-loop-k : goal.invariant-loop-k
invariant-loop-k l =
    (length l.rows ≡ 2944) × (((j : ℕ) → j < l.k → word_at l.rows l.node j ≡ get_or l.words j 0)
    × ((c j : ℕ) → j < 23 → (c ≡ l.node → ⊥) → word_at l.rows c j ≡ word_at l.initial.rows c j))
