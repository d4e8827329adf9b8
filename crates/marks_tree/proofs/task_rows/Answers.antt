-- `task_rows` meets its contract: the tasks below i are done. Assumes nothing.
use Rattle.marks_tree.proofs.Children.{task_more, task_skip}
use Rattle.marks_tree.proofs.task_rows.Goals as goal
use Rattle.marks_tree.proofs.task_rows.Goals.{then-kind-i, else-kind-i}

pub loop-i-preserved : goal.loop-i-preserved
loop-i-preserved c = elim c.if-kind-i.branch [
  | then-kind-i w ↦
      task_more w.rows-is c.loop-i.invariant w.write_row.ensures w.task_words-words.ensures
  | else-kind-i w ↦ task_skip w.rows-is c.loop-i.invariant w.if-kind-i.false
]
