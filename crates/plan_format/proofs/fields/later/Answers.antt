-- `plan_format::fields::later` meets its contract. Assumes nothing.
use Rattle.plan_format.specs.Format.{later_of}
use Rattle.plan_format.proofs.fields.later.Goals as goal

pub returns : goal.returns
unfolding later_of
returns c = rw (
  c.orders.ensures,
  c.conditions.ensures,
  c.nodes.ensures,
)

pub nodes-requires : goal.nodes-requires
nodes-requires c = c.requires.1.limits.long

pub conditions-requires : goal.conditions-requires
conditions-requires c = c.requires.1.limits.long

pub orders-requires : goal.orders-requires
orders-requires c = c.requires.1.limits.long
