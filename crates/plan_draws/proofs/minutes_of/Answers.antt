-- `minutes_of` meets its contract. Assumes nothing.
use Rattle.std.proofs.Common.{arith}
use Rattle.plan_draws.proofs.Fields.{minutes_group, minutes_task}
use Rattle.plan_draws.proofs.minutes_of.Goals as goal

pub returns : goal.returns
returns c = minutes_task _ c.requires.0 _ c.requires.2 c.args.node (omega arith) c.requires.1

pub returns-then-node-recipe : goal.returns-then-node-recipe
returns-then-node-recipe c = minutes_group _ _ (omega arith)
