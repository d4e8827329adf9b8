-- `must_pairs_of` meets its contract: the flags known, and those that a pair with c so far must clobber. Assumes
-- nothing.
use mathlib.Core.Path.{◌≡◌, refl}
use native.Mathlib.Omega.{arith}
use Rattle.tables.specs.Segments.{Position}
use Rattle.marks_between.proofs.Passed.{kid}
use Rattle.marks_must_pairs.proofs.Pairs.{none_new, added, child_more, all_more}
use Rattle.marks_must_pairs.proofs.must_pairs_of.Goals as goal

pub returns-then-flags-must_pre-eq0 : goal.returns-then-flags-must_pre-eq0
returns-then-flags-must_pre-eq0 c =
    λ p n g hc v q f m. none_new m c.if-flags-must_pre-eq0.true
    (c.must_pre.ensures p g.group.well_formed hc.node (g.group.children _ hc) v q f m)

pub loop-j-preserved : goal.loop-j-preserved
loop-j-preserved c =
    let at : Position c.args.segment c.loop-j.j = record { low = omega arith; high = omega arith } in
    λ p n g hc v q f m. child_more at.low (c.loop-j.invariant p n g hc v q f m)
    (added c.loop-j.flags c.must_pair_word-flags.result m refl
    (c.must_pair_word-flags.ensures.says p n g hc (kid g refl at) v q f m))

pub returns : goal.returns
returns c =
    let e : c.loop-j.j ≡ c.args.segment.end = omega arith in
    λ p n g hc v q f m. all_more g (rw e at (c.loop-j.invariant p n g hc v q f m))
