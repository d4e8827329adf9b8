-- `part_at` meets its contract. Assumes nothing.
use mathlib.Core.Path.{◌∙◌}
use native.Mathlib.Omega.{arith}
use Rattle.plan_layout.proofs.Parts.{at_size, at_start, at_name, at_entry, at_task, at_value, at_earlier}
use Rattle.plan_layout.proofs.Parts.{at_later}
use Rattle.plan_layout.proofs.part_at.Goals as goal

pub returns-then-i-lt8 : goal.returns-then-i-lt8
returns-then-i-lt8 c = at_size _ _ (omega arith)

pub returns-then-i-lt16 : goal.returns-then-i-lt16
returns-then-i-lt16 c = at_start _ _ (omega arith) (omega arith)

pub returns-then-i-entries : goal.returns-then-i-entries
returns-then-i-entries c = at_name _ _ (omega arith) (omega arith)

pub returns-then-i-tasks : goal.returns-then-i-tasks
returns-then-i-tasks c = c.entry_part.ensures ∙ at_entry _ _ (omega arith) (omega arith)

pub returns-then-i-values : goal.returns-then-i-values
returns-then-i-values c = at_task _ _ (omega arith) (omega arith)

pub returns-then-i-earlier : goal.returns-then-i-earlier
returns-then-i-earlier c = c.value_part.ensures ∙ at_value _ _ (omega arith) (omega arith)

pub returns-then-i-later : goal.returns-then-i-later
returns-then-i-later c = at_earlier _ _ (omega arith) (omega arith)

pub returns : goal.returns
returns c = at_later _ _ (omega arith)
