-- `plan_check::whole_length` meets its contract. Assumes nothing.
use Rattle.plan_format.specs.Format.{whole_length}
use Rattle.plan_check.proofs.whole_length.Goals as goal

pub returns : goal.returns
unfolding whole_length
returns c = rw (c.orders.ensures, c.conditions.ensures, c.nodes.ensures)

pub nodes-requires : goal.nodes-requires
nodes-requires c = c.requires.long

pub conditions-requires : goal.conditions-requires
conditions-requires c = c.requires.long

pub orders-requires : goal.orders-requires
orders-requires c = c.requires.long
