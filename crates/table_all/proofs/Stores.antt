-- What one item asks of the tables and changes in them, by its kind. Assumes nothing.
use mathlib.Core.Path.{◌≡◌, refl, sym, subst}
use mathlib.Core.List.{List}
use Prim.Native.Nat.{ℕ, ◌+◌, ◌*◌, ◌/◌, ◌%◌, ◌^◌, ◌<◌, ◌≤◌}
use lib.Bits.{bit_or}
use lib.ListN.{get_or, set}
use Rattle.table_orders.specs.Links.{Linked, Leading}
use Rattle.plan_reader.specs.declared.items.Node.{Node}
use Rattle.plan_reader.specs.declared.items.Condition.{Condition}
use Rattle.plan_reader.specs.declared.items.Order.{Order}
use Rattle.plan_reader.specs.declared.items.Item.{Item}
use Rattle.plan_reader.specs.declared.items.Item.TheVariants as item
use Rattle.table_all.specs.Filled.{ItemFits, Stored}

module _ (at : ℕ) {i : Item} where
  pub fits_node : {x : Node} → i ≡ item.Node x → ItemFits at i → at < 128
  unfolding ItemFits
  fits_node e f = subst (λ (j : Item). ItemFits at j) e f

  pub fits_condition : {x : Condition} → i ≡ item.Condition x → ItemFits at i → (x.node < 128) × (x.value ≤ 383)
  unfolding ItemFits
  fits_condition e f = subst (λ (j : Item). ItemFits at j) e f

  pub fits_order : {x : Order} → i ≡ item.Order x → ItemFits at i → (x.earlier < x.later) × (x.later < 128)
  unfolding ItemFits
  fits_order e f = subst (λ (j : Item). ItemFits at j) e f

  module _ (k o c : List ℕ) where
    pub stored_node : {x : Node} → i ≡ item.Node x → Stored at i k (set k at x.kind) o o c c
    unfolding Stored
    stored_node {x} e = subst (λ (j : Item). Stored at j k (set k at x.kind) o o c c) (sym e) (refl, (refl, refl))

    pub stored_condition : (c' : List ℕ) {t : ℕ} {x : Condition} → i ≡ item.Condition x → t ≡ x.node
        → c' ≡ set c (t * 6 + x.value / 64) (bit_or (get_or c (t * 6 + x.value / 64) 0) (2 ^ (x.value % 64)))
        → Stored at i k k o o c c'
    unfolding Stored
    stored_condition c' e f g = subst (λ (j : Item). Stored at j k k o o c c') (sym e) (rw f at g, (refl, refl))

    pub stored_order : (o' : List ℕ) {a b : ℕ} {x : Order} → i ≡ item.Order x → a ≡ x.earlier → b ≡ x.later
        → Linked o o' b (Leading o a) → Stored at i k k o o' c c
    unfolding Stored
    stored_order o' e f g h = subst (λ (j : Item). Stored at j k k o o' c c) (sym e) (rw (f, g) at h, (refl, refl))
