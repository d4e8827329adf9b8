-- `passing_part` meets its contract: the flags left are those that pass the children up to i. Assumes nothing.
use Rattle.marks_between.specs.Passing.{PassingPart}
use Rattle.marks_between.proofs.passing_part.Given as goal

abbrev pub invariant-loop-i : goal.invariant-loop-i
invariant-loop-i l = PassingPart l.kids l.fn.segment.start l.i l.order l.rows
    l.fn.given.always l.fn.given.flags l.passage.to l.passage.from l.left
