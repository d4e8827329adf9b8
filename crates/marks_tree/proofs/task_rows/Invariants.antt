-- `task_rows` meets its contract: the tasks below i are done. Assumes nothing.
use Rattle.marks_tree.specs.Filled.{TasksFilled}
use Rattle.marks_tree.proofs.task_rows.Given as goal

abbrev pub invariant-loop-i : goal.invariant-loop-i
invariant-loop-i l = TasksFilled l.kind l.conds l.rows l.i
