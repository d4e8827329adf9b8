-- `rows_below` meets its contract: all but the root is under its children. Assumes nothing.
use Rattle.marks_tree.proofs.Children.{nodes_below}
use Rattle.marks_tree.proofs.rows_below.Goals as goal

pub returns : goal.returns
returns c = let g = c.groups_under.ensures in nodes_below c.task_rows.ensures g.0 g.1
