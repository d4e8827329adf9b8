-- Three times the distance from the node to n falls, with two more for a node, and one more for a group of a known
-- kind, than for what is under it. The children before i are worked out, with all under them: the loop is there once.
use Rattle.std.proofs.Common.{◌+◌, ◌*◌, ◌-◌}
use Rattle.marks_tree.specs.Filled.{ChildrenTo}
use Rattle.marks_tree.proofs.+all_of_any_of_group_groups_under.Given as goal

abbrev pub decreases-all_of : goal.decreases-all_of
decreases-all_of l = 3 * (l.n - l.node) + 1

abbrev pub decreases-any_of : goal.decreases-any_of
decreases-any_of l = 3 * (l.n - l.node) + 1

abbrev pub decreases-group : goal.decreases-group
decreases-group l = 3 * (l.n - l.node) + 2

abbrev pub decreases-groups_under : goal.decreases-groups_under
decreases-groups_under l = 3 * (l.n - l.node)

abbrev pub invariant-groups_under-loop-i : goal.invariant-groups_under-loop-i
invariant-groups_under-loop-i l =
    ChildrenTo l.kind l.from l.kids l.order l.n l.node l.segment l.initial.rows l.rows l.i
