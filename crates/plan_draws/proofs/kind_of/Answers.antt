-- `kind_of` meets its contract. Assumes nothing.
use Rattle.std.proofs.Common.{arith}
use Rattle.plan_draws.proofs.Fields.{kind_root, kind_drawn_lem, kind_task, kind_read}
use Rattle.plan_draws.proofs.kind_of.Goals as goal

pub returns-then-node-recipe : goal.returns-then-node-recipe
returns-then-node-recipe c =
    omega (
      arith,
      kind_read _ c.requires.0 _ c.requires.1 c.args.node (omega arith) (omega arith),
      kind_drawn_lem c.args.recipe c.args.node (omega arith) (omega arith),
    )

pub returns-then-node-eq0 : goal.returns-then-node-eq0
returns-then-node-eq0 c = kind_root _ _ (omega arith)

pub returns : goal.returns
returns c = kind_task _ _ (omega arith)
