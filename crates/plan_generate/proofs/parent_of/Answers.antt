-- `parent_of` meets its contract. Assumes nothing.
use native.Mathlib.Omega.{arith}
use Rattle.plan_generate.proofs.Bytes.{parent_root, parent_group, parent_task, turn}
use Rattle.plan_generate.proofs.parent_of.Goals as goal

pub returns-then-node-eq0 : goal.returns-then-node-eq0
returns-then-node-eq0 c = parent_root _ _ (omega arith)

pub returns-then-node-groups : goal.returns-then-node-groups
returns-then-node-groups c = parent_group _ _ (omega arith) (omega arith)

pub overflow_cast-result : goal.overflow_cast-result
overflow_cast-result c = omega (arith, turn c.args.groups c.args.node c.requires.0)

pub overflow_add-result : goal.overflow_add-result
overflow_add-result c = omega (arith, turn c.args.groups c.args.node c.requires.0)

pub returns : goal.returns
returns c = parent_task _ _ (omega arith)
