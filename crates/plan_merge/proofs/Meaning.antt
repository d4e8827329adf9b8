-- What the merged bytes mean merges what the two plans mean; so they are CLEAR exactly as 02 says (`clear_exactly`).
-- Assumes nothing.
use mathlib.Core.Path.{◌≡◌, refl, sym, ap, ◌∙◌}
use mathlib.Core.Logic.{◌⊎◌, inl, inr, ⊎_map, ◌↔◌}
use mathlib.Core.Bool.{Bool}
use mathlib.Core.Option.{some}
use mathlib.Core.List.{List}
use Prim.Native.Nat.{ℕ, ◌+◌, ◌<◌, ◌≤◌}
use native.Mathlib.Omega.{arith}
use lib.Dec.{T}
use borrow.Author.Tests.{lt-ltb}
use Rattle.plan_codes.specs.Values.{value_of}
use Rattle.plan_format.specs.Format.{node_count, cond_count, order_count, flag_count, start_flag, cond_node, cond_value}
use Rattle.plan_format.specs.Format.{earlier_of, later_of}
use Rattle.plan_rules.specs.Rules.{refusal}
use Rattle.plan_check.specs.Meaning.{kind_at, plan_of, start_of, OrderPair}
use Rattle.plan_check.specs.Means.{ConditionPair}
use Rattle.plan_check.proofs.Meaning.{means, kind_all_of}
use Rattle.runs.specs.Plan.{Place, place_number, sign_number}
use Rattle.runs.specs.Verdict.{Clear}
use Rattle.merges.specs.Collisions.{BothClear}
use Rattle.merges.proofs.Halves.{TreeAt, ConditionFrom, OrderFrom}
use Rattle.merges.proofs.Merging.{MergesPlans, merges_clear}
use Rattle.plan_layout.specs.Fields.{Fields, Laid}
use Rattle.plan_parts.specs.Read.{fields_of}
use Rattle.plan_merge.specs.Model.{merged_sizes, merged_fields}
use Rattle.plan_merge.specs.Inner.{Mergeable}
use Rattle.plan_merge.proofs.Fields.{Contains, contains_first, contains_second, root_kind}
use Rattle.plan_merge.proofs.Valid.{Half, first_half, second_half, half_of}
use Rattle.plan_merge.proofs.Bytes.{whole_first, whole_second}
use Rattle.plan_merge.proofs.Sentences.{merged_accepted, starts_first, starts_second}

-- ---- what the bytes m say of a plan d that they carry
module _ (m : List ℕ) (f : Fields) (l : Laid m f) (d : List ℕ) (s c k : ℕ) (h : Contains f (fields_of d) s c k) where
  tree_at : 0 < node_count d → node_count d + s ≤ f.sizes.nodes → flag_count d ≤ flag_count m
      → ((i : ℕ) → i < flag_count d → start_flag m i ≡ start_flag d i)
      → TreeAt (plan_of m) (plan_of d) (start_of m) (start_of d) s
  unfolding plan_of start_of
  tree_at node fits more starts = record {
    kinds = λ i n. ap kind_at (l.kind (i + s) (omega arith) ∙ h.kind (i + s) i refl n);
    root_parent = l.parent (0 + s) (omega arith) ∙ h.root (0 + s) refl node;
    parents = λ i z n. l.parent (i + s) (omega arith) ∙ h.parent (i + s) i refl z n;
    starts = λ i n. rw (lt-ltb i (flag_count m) (omega arith), lt-ltb i (flag_count d) n) (starts i n);
  }

  -- condition x of m is condition i of d, order x order j
  pair_in : (x i v : ℕ) → x ≡ i + c → i < cond_count d → x < f.sizes.conditions → cond_value m x ≡ v
      → (cond_node m x ≡ cond_node d i + s) × ConditionPair d (cond_node d i) v
  pair_in x i v e n w q = (
    l.task x w ∙ h.task x i e n,
    record { at = i; below = n; node = refl; value = sym (l.value x w ∙ h.value x i e n) ∙ q },
  )

  pair_out : cond_count d + c ≤ f.sizes.conditions → (t v : ℕ) → ConditionPair d t v → ConditionPair m (t + s) v
  pair_out w t v p = let i = p.at in let n = p.below in record {
    at = i + c;
    below = omega (arith, l.conditions);
    node = l.task (i + c) (omega arith) ∙ h.task (i + c) i refl n ∙ ap (λ (x : ℕ). x + s) p.node;
    value = l.value (i + c) (omega arith) ∙ h.value (i + c) i refl n ∙ p.value;
  }

  order_in : (x j : ℕ) → x ≡ j + k → j < order_count d → x < f.sizes.orders
      → (earlier_of m x ≡ earlier_of d j + s) × (later_of m x ≡ later_of d j + s)
      × OrderPair d (earlier_of d j) (later_of d j)
  order_in x j e n w = (
    l.earlier x w ∙ h.earlier x j e n,
    l.later x w ∙ h.later x j e n,
    record { at = j; below = n; earlier = refl; later = refl },
  )

  order_out : order_count d + k ≤ f.sizes.orders → (x y : ℕ) → OrderPair d x y → OrderPair m (x + s) (y + s)
  order_out w x y p = let j = p.at in let n = p.below in record {
    at = j + k;
    below = omega (arith, l.orders);
    earlier = l.earlier (j + k) (omega arith) ∙ h.earlier (j + k) j refl n ∙ ap (λ (z : ℕ). z + s) p.earlier;
    later = l.later (j + k) (omega arith) ∙ h.later (j + k) j refl n ∙ ap (λ (z : ℕ). z + s) p.later;
  }

module _ (b c : List ℕ) (ok : Mergeable b c) (m : List ℕ) (l : Laid m (merged_fields b c)) where
  accepts : refusal m ≡ 0
  accepts = merged_accepted b c ok m l

  abbrev past : ℕ
  past = 1 + node_count b

  -- a pair of the first plan or of the second
  pairs_in : (x v : ℕ) → ConditionPair m x v
      → ((t : ℕ) × (x ≡ t + 1) × ConditionPair b t v) ⊎ ((t : ℕ) × (x ≡ t + past) × ConditionPair c t v)
  pairs_in x v p = at (half_of (cond_count b) (cond_count c) p.at (omega (arith, p.below, l.conditions)))
    where
      w : p.at < (merged_sizes b c).conditions
      w = omega (arith, p.below, l.conditions)

      at : Half (cond_count b) (cond_count c) p.at
          → ((t : ℕ) × (x ≡ t + 1) × ConditionPair b t v) ⊎ ((t : ℕ) × (x ≡ t + past) × ConditionPair c t v)
      at (first_half n) =
          let (e, q) = pair_in m _ l b 1 0 0 (contains_first b c) p.at p.at v (omega arith) n w p.value in
          inl (cond_node b p.at, sym p.node ∙ e, q)
      at (second_half j e n) = let (g, q) = pair_in m _ l c past _ _ (contains_second b c) p.at j v e n w p.value in
          inr (cond_node c j, sym p.node ∙ g, q)

  orders_in : (x y : ℕ) → OrderPair m x y
      → ((s : ℕ) × (t : ℕ) × (x ≡ s + 1) × (y ≡ t + 1) × OrderPair b s t)
      ⊎ ((s : ℕ) × (t : ℕ) × (x ≡ s + past) × (y ≡ t + past) × OrderPair c s t)
  orders_in x y p = at (half_of (order_count b) (order_count c) p.at (omega (arith, p.below, l.orders)))
    where
      w : p.at < (merged_sizes b c).orders
      w = omega (arith, p.below, l.orders)

      at : Half (order_count b) (order_count c) p.at
          → ((s : ℕ) × (t : ℕ) × (x ≡ s + 1) × (y ≡ t + 1) × OrderPair b s t)
          ⊎ ((s : ℕ) × (t : ℕ) × (x ≡ s + past) × (y ≡ t + past) × OrderPair c s t)
      at (first_half n) = let (e, g, q) = order_in m _ l b 1 0 0 (contains_first b c) p.at p.at (omega arith) n w in
          inl (earlier_of b p.at, later_of b p.at, sym p.earlier ∙ e, sym p.later ∙ g, q)
      at (second_half j z n) = let (e, g, q) = order_in m _ l c past _ _ (contains_second b c) p.at j z n w in
          inr (earlier_of c j, later_of c j, sym p.earlier ∙ e, sym p.later ∙ g, q)

  -- ---- the conditions and the orders of the plans
  few : flag_count m ≤ 64
  few = omega (arith, l.flags, (whole_first b c ok).limits.flags, (whole_second b c ok).limits.flags)

  condition_in : (p : Place) (x f : ℕ) (v : Bool) → (plan_of m).conditions.sign p x f ≡ some v
      → ConditionFrom (plan_of b) 1 p x f v ⊎ ConditionFrom (plan_of c) past p x f v
  condition_in p x f v e = ⊎_map (λ z. (z.0, z.1, ((means b ok.first_passes).condition p z.0 f v small).1 z.2))
      (λ z. (z.0, z.1, ((means c ok.second_passes).condition p z.0 f v small).1 z.2))
      (pairs_in x (value_of f (sign_number v) (place_number p)) (((means m accepts).condition p x f v small).0 e))
    where
      small : f < 64
      small = omega (arith, ((means m accepts).accepted.on_task p x f v e).2, (means m accepts).flags, few)

  condition_out : (p : Place) (x f : ℕ) (v : Bool)
      → ConditionFrom (plan_of b) 1 p x f v ⊎ ConditionFrom (plan_of c) past p x f v
      → (plan_of m).conditions.sign p x f ≡ some v
  condition_out p x f v (inl (t, q, e)) =
      let s : f < 64 = omega (
        arith,
        ((means b ok.first_passes).accepted.on_task p t f v e).2,
        (means b ok.first_passes).flags,
        (whole_first b c ok).limits.flags,
      ) in
      rw q (((means m accepts).condition p (t + 1) f v s).1
      (pair_out m _ l b 1 0 0 (contains_first b c) (omega arith) t _
      (((means b ok.first_passes).condition p t f v s).0 e)))
  condition_out p x f v (inr (t, q, e)) =
      let s : f < 64 = omega (
        arith,
        ((means c ok.second_passes).accepted.on_task p t f v e).2,
        (means c ok.second_passes).flags,
        (whole_second b c ok).limits.flags,
      ) in
      rw q (((means m accepts).condition p (t + past) f v s).1
      (pair_out m _ l c past _ _ (contains_second b c) (omega arith) t _
      (((means c ok.second_passes).condition p t f v s).0 e)))

  order_from : (x y : ℕ) → OrderFrom (plan_of b) 1 x y ⊎ OrderFrom (plan_of c) past x y → T ((plan_of m).order x y)
  order_from x y (inl (s, t, p, q, o)) = rw (p, q) (((means m accepts).order (s + 1) (t + 1)).1
      (order_out m _ l b 1 0 0 (contains_first b c) (omega arith) s t (((means b ok.first_passes).order s t).0 o)))
  order_from x y (inr (s, t, p, q, o)) = rw (p, q) (((means m accepts).order (s + past) (t + past)).1
      (order_out m _ l c past _ _ (contains_second b c) (omega arith) s t (((means c ok.second_passes).order s t).0 o)))

  plans_merged : MergesPlans (plan_of m) (plan_of b) (plan_of c) (start_of m) (start_of b) (start_of c)
  unfolding plan_of
  plans_merged = record {
    size = omega (arith, l.nodes);
    root = kind_all_of _ (l.kind 0 (omega arith) ∙ root_kind b c);
    first = tree_at m _ l b 1 0 0 (contains_first b c) (whole_first b c ok).limits.some_node (omega arith)
        (omega (arith, l.flags)) (starts_first b c ok m l);
    second = tree_at m _ l c past _ _ (contains_second b c) (whole_second b c ok).limits.some_node (omega arith)
        (omega (arith, l.flags)) (starts_second b c ok m l);
    conditions = λ p x f v. (condition_in p x f v, condition_out p x f v);
    orders = λ x y. (
      λ o. ⊎_map (λ z. (z.0, z.1, z.2, z.3, ((means b ok.first_passes).order z.0 z.1).1 z.4))
          (λ z. (z.0, z.1, z.2, z.3, ((means c ok.second_passes).order z.0 z.1).1 z.4))
          (orders_in x y (((means m accepts).order x y).0 o)),
      order_from x y,
    );
  }

  -- "The pooled book is CLEAR exactly when both are and .."
  pub clear_exactly : Clear (plan_of m) (start_of m) ↔ BothClear (plan_of b) (plan_of c) (start_of b) (start_of c)
  clear_exactly = merges_clear plans_merged (means m accepts).accepted (means b ok.first_passes).accepted
      (means c ok.second_passes).accepted
