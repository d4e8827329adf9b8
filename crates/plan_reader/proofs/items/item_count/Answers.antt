-- `item_count` meets its contract. Assumes nothing.
use borrow.Author.Rules.{rules}
use Rattle.plan_reader.specs.Items.{item_count}
use Rattle.plan_reader.proofs.items.item_count.Goals as goal

pub returns : goal.returns
unfolding item_count
returns c = search rules
