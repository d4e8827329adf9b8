-- `size_number` meets its contract. Assumes nothing.
use native.Mathlib.Omega.{arith}
use Rattle.plan_layout.proofs.Parts.{number_nodes, number_conditions, number_orders, number_flags}
use Rattle.plan_layout.proofs.size_number.Goals as goal

pub returns-in-0 : goal.returns-in-0
returns-in-0 c = number_nodes _ _ (omega arith)

pub returns-in-1 : goal.returns-in-1
returns-in-1 c = number_conditions _ _ (omega arith)

pub returns-in-2 : goal.returns-in-2
returns-in-2 c = number_orders _ _ (omega arith)

pub returns-in_default : goal.returns-in_default
returns-in_default c = number_flags _ _ (omega arith)
