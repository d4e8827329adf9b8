-- The table of the orders between nodes that stand, while it is filled. Assumes nothing.
use mathlib.Core.Path.{◌≡◌, sym, ◌∙◌}
use mathlib.Core.Bool.{Bool, true, false, ◌&&◌, true≢false}
use mathlib.Core.List.{List}
use Prim.Native.Nat.{ℕ, ◌+◌, ◌<◌}
use lib.Dec.{T}
use Rattle.base.proofs.Booleans.{and_both, and_of}
use Rattle.runs.proofs.Reflect.{true_T, T_true}
use Rattle.node_sets.specs.Sets.{marked}
use Rattle.plan_format.specs.Format.{order_count, earlier_of, later_of}
use Rattle.plan_rules.specs.Rules.{refusal}
use Rattle.table_orders.specs.Links.{Linked, Leading}
use Rattle.table_orders.specs.Among.{OrdersAmong}
use Rattle.table_orders.proofs.Chains.{Sorted}
use Rattle.table_orders.proofs.Table.{Tabled, tabled_more, tabled_skip, tabled_all}

-- a table marks x as standing
abbrev pub In : List ℕ → ℕ → Type 0
In standing x = T (marked standing x)

module _ {b : List ℕ} (standing : List ℕ) where
  -- one order more, told by whether both its nodes stand
  module _ {o : List ℕ} {i x y : ℕ} {stand : Bool} (ex : x ≡ earlier_of b i) (ey : y ≡ later_of b i)
      (e : stand ≡ (marked standing x && marked standing y)) (t : Tabled b (In standing) o i) where
    pub among_more : {o' o'' : List ℕ} → Sorted b → i < order_count b → o'' ≡ o' → stand ≡ true
        → Linked o o' y (Leading o x) → Tabled b (In standing) o'' (i + 1)
    among_more s l q z h = let w = and_both (marked standing x) (marked standing y) (sym e ∙ z) in
        rw q (tabled_more s l (rw (← ex) (true_T _ w.0)) (rw (← ey) (true_T _ w.1)) t (rw (ex, ey) at h))

    pub among_skip : {o'' : List ℕ} → o'' ≡ o → stand ≡ false → Tabled b (In standing) o'' (i + 1)
    among_skip q z = rw q (tabled_skip (λ u v. true≢false (sym (and_of (marked standing x) (marked standing y)
        (T_true _ (rw ex u)) (T_true _ (rw ey v))) ∙ sym e ∙ z)) t)

  pub among_all : {o : List ℕ} → refusal b ≡ 0 → Tabled b (In standing) o (order_count b) → OrdersAmong b standing o
  among_all r t = record { represents = λ p nodes same. tabled_all r nodes same t }
