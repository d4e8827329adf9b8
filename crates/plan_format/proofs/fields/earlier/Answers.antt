-- `plan_format::fields::earlier` meets its contract. Assumes nothing.
use Rattle.plan_format.specs.Format.{earlier_of}
use Rattle.plan_format.proofs.fields.earlier.Goals as goal

pub returns : goal.returns
unfolding earlier_of
returns c = rw (c.conditions.ensures, c.nodes.ensures)

pub nodes-requires : goal.nodes-requires
nodes-requires c = c.requires.1.limits.long

pub conditions-requires : goal.conditions-requires
conditions-requires c = c.requires.1.limits.long
