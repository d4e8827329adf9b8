-- `plan_reader::items::node_at` meets its contract. Assumes nothing.
use Rattle.plan_reader.proofs.items.node_at.Goals as goal

pub returns : goal.returns
returns c = rw (c.minutes.ensures, c.kind.ensures, c.parent.ensures)

pub parent-requires : goal.parent-requires
parent-requires c = c.requires

pub kind-requires : goal.kind-requires
kind-requires c = c.requires

pub minutes-requires : goal.minutes-requires
minutes-requires c = c.requires
