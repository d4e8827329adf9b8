-- `task_lengths` meets its contract: the tasks below t are done. Assumes nothing.
use Rattle.wait_tree.proofs.Tasks.{TasksTo}
use Rattle.wait_tree.proofs.task_lengths.Given as goal

abbrev pub invariant-loop-t : goal.invariant-loop-t
invariant-loop-t l = TasksTo l.plan l.lengths l.t
