-- `both_stand` meets its contract. Assumes nothing.
use Rattle.std.proofs.Common.{rules}
use Rattle.node_sets.specs.Sets.{marked}
use Rattle.table_orders.proofs.both_stand.Goals as goal

pub returns-then-standing-a-eq1 : goal.returns-then-standing-a-eq1
unfolding marked
returns-then-standing-a-eq1 c = search rules

pub returns-else-standing-a-eq1 : goal.returns-else-standing-a-eq1
unfolding marked
returns-else-standing-a-eq1 c = search rules
