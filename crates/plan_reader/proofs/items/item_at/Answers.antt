-- `plan_reader::items::item_at` meets its contract: each branch's test says which part of the plan has the position.
-- Assumes nothing.
use mathlib.Core.Path.{ap, sym, ◌∙◌}
use native.Mathlib.Omega.{arith}
use Rattle.plan_reader.specs.Items.{item_count}
use Rattle.plan_reader.specs.declared.items.Item.TheVariants as item
use Rattle.plan_reader.proofs.Positions.{item_node, item_condition, item_order}
use Rattle.plan_reader.proofs.items.item_at.Goals as goal

pub order_at-requires : goal.order_at-requires
unfolding item_count
order_at-requires c = (omega arith, c.requires.1)

pub returns-then-at-n : goal.returns-then-at-n
returns-then-at-n c = ap item.Node c.node_at.ensures ∙ sym (item_node _ (omega arith))

pub returns-then-i-c : goal.returns-then-i-c
returns-then-i-c c = ap item.Condition c.condition_at.ensures ∙ sym (item_condition _ (omega arith) (omega arith))

pub returns : goal.returns
returns c = ap item.Order c.order_at.ensures ∙ sym (item_order _ _ (omega arith))

pub nodes-n-requires : goal.nodes-n-requires
nodes-n-requires c = c.requires.1.limits.long

pub node_at-requires : goal.node_at-requires
node_at-requires c = (omega arith, c.requires.1)

pub conditions-c-requires : goal.conditions-c-requires
conditions-c-requires c = c.requires.1.limits.long

pub condition_at-requires : goal.condition_at-requires
condition_at-requires c = (omega arith, c.requires.1)
