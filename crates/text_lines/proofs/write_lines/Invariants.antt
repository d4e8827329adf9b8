-- `write_lines` meets its contract: the lines of the tasks before this one are written. Assumes nothing.
use Rattle.text_lines.proofs.Text.{LinesTo}
use Rattle.text_lines.proofs.write_lines.Given as goal

abbrev pub invariant-loop-task : goal.invariant-loop-task
invariant-loop-task l = LinesTo l.plan l.initial.text l.text l.task-index
