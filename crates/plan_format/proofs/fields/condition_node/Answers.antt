-- `plan_format::fields::condition_node` meets its contract. Assumes nothing.
use Rattle.plan_format.specs.Format.{cond_node}
use Rattle.plan_format.proofs.fields.condition_node.Goals as goal

pub returns : goal.returns
unfolding cond_node
returns c = rw c.nodes.ensures

pub nodes-requires : goal.nodes-requires
nodes-requires c = c.requires.1.limits.long
