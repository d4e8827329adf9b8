-- `link` meets its contract. Assumes nothing.
use Rattle.table_orders.proofs.Links.{linked}
use Rattle.table_orders.proofs.link.Goals as goal

pub returns : goal.returns
returns c = linked _ _ _ c.requires.0 c.requires.1 c.requires.2
