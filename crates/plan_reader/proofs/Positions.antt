-- Which item stands at a position. Assumes nothing.
use mathlib.Core.Path.{◌≡◌}
use Prim.Native.Nat.{ℕ, ◌+◌, ◌-◌, ◌<◌, ◌^◌}
use mathlib.Core.List.{List}
use native.Mathlib.Omega.{arith}
use borrow.Author.Tests.{lt-ltb, le-ltb}
use Rattle.plan_format.specs.Format.{node_count, cond_count}
use Rattle.plan_format.specs.Whole.{Whole}
use Rattle.plan_reader.specs.Items.{node_item, condition_of, order_of, item_count, item_of}
use Rattle.plan_reader.specs.declared.items.Item.TheVariants as item

pub item_node : (b : List ℕ) {at : ℕ} → at < node_count b → item_of b at ≡ item.Node (node_item b at)
unfolding item_of
item_node b l = simp (lt-ltb _ _ l)

pub item_condition : (b : List ℕ) {at i : ℕ} → at ≡ node_count b + i → i < cond_count b
    → item_of b at ≡ item.Condition (condition_of b i)
unfolding item_of
item_condition b {at} {i} e l =
    let e' : at - node_count b ≡ i = omega arith in
    simp (le-ltb at (node_count b) (omega arith), e', lt-ltb i (cond_count b) l)

pub item_order : (b : List ℕ) (j : ℕ) {at : ℕ} → at ≡ node_count b + cond_count b + j
    → item_of b at ≡ item.Order (order_of b j)
unfolding item_of
item_order b j {at} e =
    let i : at - node_count b ≡ cond_count b + j = omega arith in
    let k : cond_count b + j - cond_count b ≡ j = omega arith in
    simp (le-ltb at (node_count b) (omega arith), i, k, le-ltb (cond_count b + j) (cond_count b) (omega arith))

-- the position after an item is a usize
pub next_fits : {b : List ℕ} {at : ℕ} → Whole b → at < item_count b → at + 1 < 2 ^ 64
unfolding item_count
next_fits w l = omega (arith, w.limits.nodes, w.limits.conditions, w.limits.orders)
