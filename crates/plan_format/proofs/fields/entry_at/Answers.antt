-- `plan_format::fields::entry_at` meets its contract. Assumes nothing.
use Rattle.plan_format.specs.Format.{entry_at}
use Rattle.plan_format.proofs.fields.entry_at.Goals as goal

pub returns : goal.returns
unfolding entry_at
returns c = rw c.nodes.ensures

pub nodes-requires : goal.nodes-requires
nodes-requires c = c.requires.1.limits.long
