-- `passing_part` meets its contract. Assumes nothing.
use mathlib.Core.Path.{◌≡◌}
use native.Mathlib.Omega.{arith}
use Rattle.marks_siblings.proofs.Sibling.{implied}
use Rattle.marks_between.proofs.Passed.{part_more, part_empty}
use Rattle.marks_between.proofs.passing_part.Goals as goal

pub loop-i-preserved : goal.loop-i-preserved
loop-i-preserved c =
    let e = c.from-b.ensures in
    part_more c.loop-i.auto.i c.narrowed-left.ensures
    (λ f k. implied (rw e at c.in_the_way.ensures) (rw e at (c.lets_pass.ensures f k))) c.loop-i.invariant

pub returns-then-left-eq0 : goal.returns-then-left-eq0
returns-then-left-eq0 c = rw c.if-left-eq0.true (part_empty (omega arith) c.if-left-eq0.true c.loop-i.invariant)

pub returns-after-loop-i : goal.returns-after-loop-i
returns-after-loop-i c =
    let last : c.loop-i.i ≡ c.args.segment.end = omega arith in
    rw last at c.loop-i.invariant
