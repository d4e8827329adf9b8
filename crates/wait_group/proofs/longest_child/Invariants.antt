-- `longest_child` meets its contract: the greatest length of the children before i. Assumes nothing.
use Rattle.std.proofs.Common.{get_or}
use Rattle.wait_lengths.specs.Waits.{length_of}
use Rattle.wait_group.proofs.Children.{GreatestTo}
use Rattle.wait_group.proofs.longest_child.Given as goal

abbrev pub invariant-loop-i : goal.invariant-loop-i
invariant-loop-i l = GreatestTo l.kids (get_or l.from l.node 0) (length_of l.plan) l.i l.longest
