-- `plan_reader::items::condition_at` meets its contract. Assumes nothing.
use Rattle.plan_reader.proofs.items.condition_at.Goals as goal

pub returns : goal.returns
returns c = rw (c.condition_value.ensures, c.condition_node.ensures)

pub condition_node-requires : goal.condition_node-requires
condition_node-requires c = c.requires

pub condition_value-requires : goal.condition_value-requires
condition_value-requires c = c.requires
