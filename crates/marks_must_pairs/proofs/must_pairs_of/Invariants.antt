-- `must_pairs_of` meets its contract: the flags known, and those that a pair with c so far must clobber. Assumes
-- nothing.
use mathlib.Core.Logic.{◌⊎◌}
use lib.Dec.{T}
use Rattle.base.specs.Bits.{bit}
use Rattle.runs.specs.Plan.{Child}
use Rattle.tables.specs.Segments.{Some}
use Rattle.marks_row.specs.Musts.{SaysOf}
use Rattle.marks_between.specs.Passing.{OfGroups}
use Rattle.marks_must_pairs.specs.MustPairs.{MustPair}
use Rattle.marks_must_pairs.proofs.must_pairs_of.Given as goal

abbrev pub invariant-loop-j : goal.invariant-loop-j
invariant-loop-j l =
    OfGroups l.kids l.segment l.order l.rows (λ p n. Child p n l.c → SaysOf l.sign l.flags
    (λ f v. T (bit l.initial.flags f) ⊎ Some l.kids l.segment.start l.j (MustPair p n f v l.c)))
