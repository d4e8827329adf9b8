-- `name_byte` meets its contract. Assumes nothing.
use native.Mathlib.Omega.{arith}
use Rattle.plan_generate.proofs.Bytes.{name_root, name_group, name_task, name_hundreds, name_tens, name_ones}
use Rattle.plan_generate.proofs.name_byte.Goals as goal

pub returns-then-node-eq0 : goal.returns-then-node-eq0
returns-then-node-eq0 c = name_root _ _ (omega arith)

pub returns-then-node-groups : goal.returns-then-node-groups
returns-then-node-groups c = name_group _ _ (omega arith) (omega arith) (omega arith)

pub returns-else-node-groups : goal.returns-else-node-groups
returns-else-node-groups c = name_task _ _ (omega arith) (omega arith)

pub returns-in-1 : goal.returns-in-1
returns-in-1 c = name_hundreds _ _ (omega arith) (omega arith)

pub returns-in-2 : goal.returns-in-2
returns-in-2 c = name_tens _ _ (omega arith) (omega arith)

pub returns-in_default : goal.returns-in_default
returns-in_default c = name_ones _ _ (omega arith) (omega arith)
