-- The nodes, conditions and orders of a plan, as it has them one after another.
use Rattle.std.specs.Prelude.{ℕ, ◌+◌, ◌-◌, cond, List, ltb}
use Rattle.plan_format.specs.Format.{node_count, cond_count, order_count, parent_of, kind_of, minutes_of, cond_node}
use Rattle.plan_format.specs.Format.{cond_value}
use Rattle.plan_format.specs.Format.{earlier_of, later_of}
use Rattle.plan_reader.specs.declared.items.Node.{Node}
use Rattle.plan_reader.specs.declared.items.Condition.{Condition}
use Rattle.plan_reader.specs.declared.items.Order.{Order}
use Rattle.plan_reader.specs.declared.items.Item.{Item}
use Rattle.plan_reader.specs.declared.items.Item.TheVariants as item
use Rattle.plan_reader.specs.declared.Reader.{Reader}

abbrev pub node_item : List ℕ → ℕ → Node
node_item b n = record { parent = parent_of b n; kind = kind_of b n; minutes = minutes_of b n }

abbrev pub condition_of : List ℕ → ℕ → Condition
condition_of b i = record { node = cond_node b i; value = cond_value b i }

abbrev pub order_of : List ℕ → ℕ → Order
order_of b j = record { earlier = earlier_of b j; later = later_of b j }

unfoldable pub item_count : List ℕ → ℕ
item_count b = node_count b + cond_count b + order_count b

-- first all nodes, then all conditions, then all orders
unfoldable pub item_of : List ℕ → ℕ → Item
item_of b at =
    cond (ltb at (node_count b)) (item.Node (node_item b at))
    (cond (ltb (at - node_count b) (cond_count b)) (item.Condition (condition_of b (at - node_count b)))
    (item.Order (order_of b (at - node_count b - cond_count b))))

-- the reader at the next position
abbrev pub advanced : Reader → Reader
advanced r = record { plan = r.plan; at = r.at + 1 }
