-- The root has as many children as its segment has places, so places tell 23. Assumes nothing.
use mathlib.Core.Path.{◌≡◌, refl, sym, ◌∙◌}
use mathlib.Core.Logic.{◌≢◌, ◌⊎◌, inl, inr}
use mathlib.Core.Bool.{Bool, true, false}
use mathlib.Core.List.{List}
use Prim.Native.Nat.{ℕ, zero, suc, ◌≤◌, ◌<◌}
use native.Mathlib.Omega.{arith}
use native.Mathlib.Decide.{ℕ_discrete}
use lib.Dec.{eqb}
use Rattle.base.specs.Count.{count_below}
use Rattle.base.proofs.Booleans.{same, not_passed}
use Rattle.base.proofs.Count.{count_same, count_none, count_one_more}
use Rattle.runs.specs.Searches.{any_below}
use Rattle.runs.specs.Plan.{all_of, Plan}
use Rattle.runs.specs.WellFormed.{WellFormed}
use Rattle.runs.specs.Model.Trees.{child_b}
use Rattle.runs.proofs.Reflect.{Reflects, T_true, true_T, r_any, r_eq}
use Rattle.runs.proofs.Plan.Reflect.{r_child}
use Rattle.tables.specs.declared.Segment.{Segment}
use Rattle.sequences.specs.Sequences.{Refused23}
use Rattle.sequences.specs.Model.{child_count}
use Rattle.sequences.proofs.Search.{refused_is}
use Rattle.sequence_search.specs.Search.{CHILDREN, count, child_at, RootChildren}
use Rattle.sequence_search.proofs.Places.{is_child_lem, place_of_lem, two_nodes}

module _ {p : Plan} {kids : List ℕ} {s : Segment} (w : WellFormed p) (t : RootChildren p kids s) where
  -- c stands at a place below n
  abbrev placed_b : ℕ → ℕ → Bool
  placed_b n c = any_below n (λ i. eqb (child_at kids s i) c)

  r_placed : (n c : ℕ) → Reflects (placed_b n c) ((i : ℕ) × (i < n) × (child_at kids s i ≡ c))
  r_placed n c = r_any (λ i. child_at kids s i ≡ c) n _ (λ i. r_eq (child_at kids s i) c)

  -- each place has another child
  places : (n : ℕ) → n ≤ count s → count_below p.tree.size (placed_b n) ≡ n
  places zero l = count_none p.tree.size (placed_b 0)
      (λ c m. not_passed _ (λ e. let (i, k, q) = (r_placed 0 c).to (true_T _ e) in omega (arith, k)))
  places (suc n) l = count_one_more p.tree.size (placed_b n) (placed_b (suc n)) (child_at kids s n)
      (w.node_below _ (is_child_lem t (omega (arith, l))).node) not_yet now others
      ∙ more (places n (omega (arith, l)))
    where
      not_yet : placed_b n (child_at kids s n) ≡ false
      not_yet = not_passed _ (λ e. let (i, k, q) = (r_placed n (child_at kids s n)).to (true_T _ e) in
          two_nodes t {i = i} {j = n} k (omega (arith, l)) q)

      now : placed_b (suc n) (child_at kids s n) ≡ true
      now = T_true _ ((r_placed (suc n) (child_at kids s n)).from (n, omega arith, refl))

      others : (c : ℕ) → c < p.tree.size → (c ≡ child_at kids s n → ⊥) → placed_b (suc n) c ≡ placed_b n c
      others c m k = same _ _
          (λ e. let (i, j, q) = (r_placed (suc n) c).to (true_T _ e) in
          T_true _ ((r_placed n c).from (i, below i j q (ℕ_discrete i n), q)))
          (λ e. let (i, j, q) = (r_placed n c).to (true_T _ e) in
          T_true _ ((r_placed (suc n) c).from (i, omega (arith, j), q)))
        where
          below : (i : ℕ) → i < suc n → child_at kids s i ≡ c → Dec (i ≡ n) → i < n
          below i j q (yes e) = absurd (k (sym (rw e at q)))
          below i j q (no x) = omega (arith, j, x)

      more : count_below p.tree.size (placed_b n) ≡ n → suc (count_below p.tree.size (placed_b n)) ≡ suc n
      more e = omega (arith, e)

  pub as_many_places : child_count p ≡ count s
  as_many_places = count_same p.tree.size (child_b p 0) (placed_b (count s))
      (λ c m. same _ _
      (λ e. T_true _ ((r_placed (count s) c).from (place_of_lem t ((r_child p 0 c).to (true_T _ e)))))
      (λ e. let (i, j, q) = (r_placed (count s) c).to (true_T _ e) in
      T_true _ ((r_child p 0 c).from (rw q at (is_child_lem t j)))))
      ∙ places (count s) (omega arith)

  -- 23 by the places
  pub too_many_places : CHILDREN < count s → Refused23 p
  too_many_places l = (refused_is p w).0 (inr (omega (arith, as_many_places, l)))

  pub passes_23 : p.tree.kind 0 ≡ all_of → count s ≤ CHILDREN → ¬ Refused23 p
  passes_23 k l x = at ((refused_is p w).1 x)
    where
      at : (p.tree.kind 0 ≢ all_of) ⊎ (7 < child_count p) → ⊥
      at (inl n) = n k
      at (inr m) = omega (arith, as_many_places, l, m)
