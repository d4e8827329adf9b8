-- `spread` meets its contract: the children before i are done, and the orders of each are met. Assumes nothing.
use Rattle.tables.specs.Segments.{segment_of}
use Rattle.wait_group.proofs.Children.{SpreadTo}
use Rattle.wait_group.proofs.spread.Given as goal

abbrev pub invariant-loop-i : goal.invariant-loop-i
invariant-loop-i l = SpreadTo l.plan l.kids (segment_of l.from l.node) l.lengths l.initial.waits l.waits l.i l.longest
