-- `plan_reader::items::order_at` meets its contract. Assumes nothing.
use Rattle.plan_reader.proofs.items.order_at.Goals as goal

pub returns : goal.returns
returns c = rw (c.later.ensures, c.earlier.ensures)

pub earlier-requires : goal.earlier-requires
earlier-requires c = c.requires

pub later-requires : goal.later-requires
later-requires c = c.requires
