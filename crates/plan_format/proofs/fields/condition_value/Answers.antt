-- `plan_format::fields::condition_value` meets its contract. Assumes nothing.
use Rattle.plan_format.specs.Format.{cond_value}
use Rattle.plan_format.proofs.fields.condition_value.Goals as goal

pub returns : goal.returns
unfolding cond_value
returns c = rw (c.u16_at.ensures, c.conditions.ensures, c.nodes.ensures)

pub nodes-requires : goal.nodes-requires
nodes-requires c = c.requires.1.limits.long

pub conditions-requires : goal.conditions-requires
conditions-requires c = c.requires.1.limits.long
