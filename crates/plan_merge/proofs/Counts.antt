-- The sizes and the length of a merged plan, from 02's words. Assumes nothing.
use mathlib.Core.Path.{◌≡◌, refl, ap}
use mathlib.Core.List.{List, [], ◌∷◌}
use Prim.Native.Nat.{ℕ, ◌+◌}
use native.Mathlib.Omega.{arith}
use lib.ListN.{length, length-append}
use Rattle.base.proofs.Each.{each_long}
use Rattle.plan_format.specs.Format.{node_count, cond_count, order_count, whole_length, cond_node, cond_value}
use Rattle.plan_format.specs.Format.{earlier_of}
use Rattle.plan_format.specs.Format.{later_of}
use Rattle.plan_check.proofs.Accepted.{clean}
use Rattle.plan_layout.specs.Layout.{plan_length}
use Rattle.plan_merge.specs.Sentences.{shifted_conditions, shifted_orders, IsMerged}
use Rattle.plan_merge.specs.Model.{merged_sizes}

module _ (b c m : List ℕ) (h : IsMerged b c m) where
  pub condition_count : cond_count m ≡ cond_count b + cond_count c
  condition_count = omega (
    arith,
    each_long (λ i. (cond_node m i, cond_value m i) ∷ []) 1 (λ i. refl) 0 (cond_count m),
    ap length h.conditions,
    length-append (shifted_conditions 1 b) (shifted_conditions (1 + node_count b) c),
    each_long (λ i. (cond_node b i + 1, cond_value b i) ∷ []) 1 (λ i. refl) 0 (cond_count b),
    each_long (λ i. (cond_node c i + (1 + node_count b), cond_value c i) ∷ []) 1 (λ i. refl) 0 (cond_count c),
  )

  pub order_count_lem : order_count m ≡ order_count b + order_count c
  order_count_lem = omega (
    arith,
    each_long (λ j. (earlier_of m j, later_of m j) ∷ []) 1 (λ j. refl) 0 (order_count m),
    ap length h.orders,
    length-append (shifted_orders 1 b) (shifted_orders (1 + node_count b) c),
    each_long (λ j. (earlier_of b j + 1, later_of b j + 1) ∷ []) 1 (λ j. refl) 0 (order_count b),
    each_long (λ j. (earlier_of c j + (1 + node_count b), later_of c j + (1 + node_count b)) ∷ []) 1 (λ j. refl) 0
        (order_count c),
  )

  pub merged_long : length m ≡ plan_length (merged_sizes b c)
  unfolding whole_length
  merged_long = omega (arith, (clean m h.passes).fits.whole, h.nodes, condition_count, order_count_lem)
