-- `must_pairs` meets its contract: the flags known, and those that a pair of a child so far must clobber. Assumes
-- nothing.
use mathlib.Core.Logic.{◌⊎◌}
use Prim.Native.Nat.{ℕ}
use lib.Dec.{T}
use Rattle.base.specs.Bits.{bit}
use Rattle.runs.specs.Plan.{Child}
use Rattle.tables.specs.Segments.{Some}
use Rattle.marks_row.specs.Musts.{SaysOf}
use Rattle.marks_between.specs.Passing.{OfGroups}
use Rattle.marks_must_pairs.specs.MustPairs.{MustPair}
use Rattle.marks_must_pairs.proofs.must_pairs.Given as goal

abbrev pub invariant-loop-i : goal.invariant-loop-i
invariant-loop-i l =
    OfGroups l.kids l.segment l.order l.rows (λ p n. SaysOf l.sign l.flags
    (λ f v. T (bit l.initial.flags f)
    ⊎ Some l.kids l.segment.start l.i (λ c. (d : ℕ) × Child p n d × MustPair p n f v c d)))
