-- The number of children left falls; those before place i are dead ends.
use Rattle.sequence_search.specs.Search.{DeadTo}
use Rattle.sequence_search.proofs.+search.Given as goal

abbrev pub decreases-search : goal.decreases-search
decreases-search l = l.reach.left

abbrev pub invariant-loop-i : goal.invariant-loop-i
invariant-loop-i l = DeadTo l.rows l.kids l.segment l.before l.reach l.i
