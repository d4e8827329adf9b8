-- `all_length`, `any_length` and `groups_under` meet their contracts. Twice the distance from the node to the number of
-- nodes falls, and one more for a group than for what is under it. The children before i are worked out, with all under
-- them: the loop is there once.
-- Assumes nothing.
use Rattle.std.proofs.Common.{◌-◌, ◌+◌, ◌*◌}
use Rattle.plan_format.specs.Format.{node_count}
use Rattle.tables.specs.Segments.{segment_of}
use Rattle.wait_tree.specs.Filled.{LengthsTo}
use Rattle.wait_tree.proofs.+all_length_any_length_groups_under.Given as goal

abbrev pub decreases-all_length : goal.decreases-all_length
decreases-all_length l = 2 * (node_count l.plan.now - l.node) + 1

abbrev pub decreases-any_length : goal.decreases-any_length
decreases-any_length l = 2 * (node_count l.plan.now - l.node) + 1

abbrev pub decreases-groups_under : goal.decreases-groups_under
decreases-groups_under l = 2 * (node_count l.plan.now - l.node)

abbrev pub invariant-groups_under-loop-i : goal.invariant-groups_under-loop-i
invariant-groups_under-loop-i l =
    LengthsTo l.plan l.kids (segment_of l.from l.node) l.initial.lengths l.initial.waits l.lengths l.waits l.i
