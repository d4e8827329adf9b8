-- `node_rows` meets its contract: all is under the root. Assumes nothing.
use Rattle.marks_tree.proofs.Children.{all_nodes}
use Rattle.marks_tree.proofs.node_rows.Goals as goal

pub returns : goal.returns
returns c = all_nodes c.task_rows.ensures c.group.ensures
