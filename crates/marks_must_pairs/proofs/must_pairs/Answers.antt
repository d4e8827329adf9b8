-- `must_pairs` meets its contract: the flags known, and those that a pair of a child so far must clobber. Assumes
-- nothing.
use mathlib.Core.Path.{◌≡◌}
use native.Mathlib.Omega.{arith}
use Rattle.tables.specs.Segments.{Position}
use Rattle.marks_between.proofs.Passed.{kid}
use Rattle.marks_must_pairs.proofs.Pairs.{child_more, all_more}
use Rattle.marks_must_pairs.proofs.must_pairs.Goals as goal

pub loop-i-preserved : goal.loop-i-preserved
loop-i-preserved c =
    let at : Position c.args.segment c.loop-i.i = record { low = omega arith; high = omega arith } in
    let e = c.from.ensures in
    λ p n g v q f m. child_more at.low (c.loop-i.invariant p n g v q f m)
    (rw e at (c.must_pairs_of-flags.ensures p n g (kid g e at) v q f m))

pub returns : goal.returns
returns c =
    let e : c.loop-i.i ≡ c.args.segment.end = omega arith in
    λ p n g v q f m. all_more g (rw e at (c.loop-i.invariant p n g v q f m))
