-- Bytes whose fields obey the rules are accepted. Assumes nothing.
use mathlib.Core.Path.{◌≡◌, refl, sym, ap, ◌∙◌}
use mathlib.Core.Logic.{◌≢◌, inl, inr, ⊎_elim, by_cases}
use mathlib.Core.Bool.{Bool, true, false, not, ◌||◌, true≢false, or-true}
use mathlib.Core.List.{List}
use Prim.Native.Nat.{ℕ, suc, ◌+◌, ◌-◌, ◌*◌, ◌/◌, ◌%◌, ◌^◌, ◌<◌}
use native.Mathlib.Decide.{ℕ_discrete}
use native.Mathlib.Numerals.{add-one}
use native.Mathlib.Omega.{arith}
use lib.ListN.{length, get_or}
use lib.Dec.{eqb, ltb, leb}
use borrow.Author.Tests.{lt-ltb, le-ltb, eq-eqb, ne_eqb, eqb-true, leb-true, ltb-true, not-true}
use Rattle.plan_codes.specs.Values.{flag_of, sign_of, place_of, value_bad}
use Rattle.plan_format.specs.Format.{node_count, cond_count, order_count, flag_count, whole_length, start_flag}
use Rattle.plan_format.specs.Format.{parent_of}
use Rattle.plan_format.specs.Format.{kind_of, minutes_of, cond_node, cond_value, earlier_of, later_of, is_kind}
use Rattle.plan_format.specs.Format.{is_group}
use Rattle.plan_rules.specs.Rules.{cause1, cause2, cause3, bad_start, cause4, bad_char, cause5, bad_entry, cause6}
use Rattle.plan_rules.specs.Rules.{bad_parent, cause7, childless, cause8, bad_condition, cause9, not_below, not_rising}
use Rattle.plan_rules.specs.Rules.{cause10, both_signs, cause11, post_of, no_post, cause12, is_child, bad_pair}
use Rattle.plan_rules.specs.Rules.{bad_order}
use Rattle.plan_rules.specs.Rules.{cause13, cause14, refusal}
use Rattle.runs.specs.Searches.{any_below}
use Rattle.base.proofs.Booleans.{or_split, and_both, not_passed}
use Rattle.runs.proofs.Searches.{none_all, some_yes}
use Rattle.plan_rules.proofs.Causes.{both_signs_lem}
use Rattle.plan_check.proofs.Meaning.{kind_of_lem, group_is}
use Rattle.plan_rules.proofs.Rising.{Below}
use Rattle.plan_layout.specs.Fields.{Fields, Laid}
use Rattle.plan_layout.proofs.Valid.{Valid}

-- a test that passes where it must not
absurd_or : {A : Type 0} (a b : Bool) → (a ≡ true → A) → (b ≡ true → A) → (a || b) ≡ true → A
absurd_or a b x y h = ⊎_elim x y (or_split a b h)

below_test : (a b c d : ℕ) → Below a b c d → not_below a b c d ≡ false
unfolding not_below
below_test a b c d (inl l) = rw (lt-ltb a c l)
below_test a b c d (inr (e, l)) = rw (eq-eqb a c e, lt-ltb b d l, or-true (ltb a c))

module _ (b : List ℕ) (f : Fields) (l : Laid b f) (v : Valid f) where
  node_in : {i : ℕ} → i < node_count b → i < f.sizes.nodes
  node_in m = omega (arith, l.nodes)

  condition_in : {i : ℕ} → i < cond_count b → i < f.sizes.conditions
  condition_in m = omega (arith, l.conditions)

  order_in : {i : ℕ} → i < order_count b → i < f.sizes.orders
  order_in m = omega (arith, l.orders)

  -- the kind of a node, as the tests of the rules have it
  is_kind_lem : (i k : ℕ) → i < f.sizes.nodes → f.kind i ≡ k → is_kind b i k ≡ true
  is_kind_lem i k m e = kind_of_lem b i k (omega (arith, l.nodes)) (l.kind i m ∙ e)

  is_group_lem : (i : ℕ) → i < f.sizes.nodes → f.kind i ≢ 0 → is_group b i ≡ true
  unfolding is_group
  is_group_lem i m k =
      by_cases (ℕ_discrete (f.kind i) 1) (λ (e : f.kind i ≡ 1). rw (is_kind_lem i 1 m e))
      (λ x. by_cases (ℕ_discrete (f.kind i) 2)
      (λ (e : f.kind i ≡ 2). rw (is_kind_lem i 2 m e, or-true (is_kind b i 1)))
      (λ y. rw (is_kind_lem i 3 m (omega (arith, v.kinds i m)), or-true (is_kind b i 1 || is_kind b i 2))))

  no_1 : cause1 b ≡ false
  unfolding cause1
  no_1 = le-ltb (length b) 16 (omega (arith, l.long))

  no_2 : cause2 b ≡ false
  unfolding cause2
  no_2 = rw (
    l.nodes,
    l.conditions,
    l.orders,
    l.flags,
    le-ltb f.sizes.nodes 1 v.some_node,
    le-ltb 128 f.sizes.nodes v.limited.nodes,
    le-ltb 1024 f.sizes.conditions v.limited.conditions,
    le-ltb 512 f.sizes.orders v.limited.orders,
    le-ltb f.sizes.flags 1 v.some_flag,
    le-ltb 64 f.sizes.flags v.limited.flags,
  )

  no_3 : cause3 b ≡ false
  unfolding cause3 whole_length
  no_3 = rw (eq-eqb (length b) (16 + 8 * node_count b + 3 * cond_count b + 2 * order_count b)
      (omega (arith, l.long, l.nodes, l.conditions, l.orders)))

  no_4 : cause4 b ≡ false
  unfolding cause4 bad_start start_flag
  no_4 = none_all 64 (bad_start b) (λ k m. not_passed _ (λ h.
      let (x, y) = and_both (leb (flag_count b) k) (eqb (get_or b (8 + k / 8) 0 / 2 ^ (k % 8) % 2) 1) h in
      let e = eqb-true (get_or b (8 + k / 8) 0 / 2 ^ (k % 8) % 2) 1 y in
      let z = v.starts k m (omega (arith, leb-true (flag_count b) k x, l.flags)) in
      let q = l.start (k / 8) (omega arith) in
      let r : f.start (k / 8) / 2 ^ (k % 8) % 2 ≡ 1 = rw q at e in
      omega (arith, r, z)))

  no_5 : cause5 b ≡ false
  unfolding cause5 bad_char
  no_5 = none_all (4 * node_count b) (bad_char b) (λ k m. let q = l.nodes in
      rw (l.name k (omega arith), v.names k (omega arith)))

  no_6 : cause6 b ≡ false
  unfolding cause6 bad_entry
  no_6 = none_all (node_count b) (bad_entry b) (λ i m. not_passed _ (absurd_or _ _
      (absurd_or _ _ (λ (h : ltb 3 (kind_of b i) ≡ true).
      omega (arith, ltb-true 3 (kind_of b i) h, l.kind i (node_in m), v.kinds i (node_in m)))
      (λ h. let (x, y) = and_both (is_group b i) (ltb 0 (minutes_of b i)) h in
      omega (
        arith,
        ltb-true 0 (minutes_of b i) y,
        l.minutes i (node_in m),
        v.no_minutes i (node_in m) (λ z. group_is b i x (l.kind i (node_in m) ∙ z)),
      )))
      (λ h. let (x, y) = and_both (is_kind b i 0) (ltb 10080 (minutes_of b i)) h in
      omega (arith, ltb-true 10080 (minutes_of b i) y, l.minutes i (node_in m), v.few_minutes i (node_in m)))))

  no_7 : cause7 b ≡ false
  unfolding cause7 bad_parent
  no_7 = none_all (node_count b) (bad_parent b) (λ i m.
      by_cases (ℕ_discrete i 0)
      (λ (e : i ≡ 0). rw (e, eq-eqb (parent_of b 0) 255 (l.parent 0 v.some_node ∙ v.root)))
      (λ ne. let (x, y) = v.parents i (omega arith) (node_in m) in
      let q = l.parent i (node_in m) in
      rw (ne_eqb i 0 ne, q, lt-ltb (f.parent i) i x, is_group_lem (f.parent i) (omega (arith, node_in m)) y)))

  no_8 : cause8 b ≡ false
  unfolding cause8 childless
  no_8 = none_all (node_count b) (childless b) (λ g m. not_passed _ (λ h.
      let (x, y) = and_both (is_group b g) (not (any_below (node_count b) (λ n. eqb (parent_of b n) g))) h in
      let (c, k, e) = v.children g (node_in m) (λ z. group_is b g x (l.kind g (node_in m) ∙ z)) in
      true≢false (sym (some_yes (node_count b) (λ n. eqb (parent_of b n) g) c (omega (arith, l.nodes))
      (eq-eqb (parent_of b c) g (l.parent c k ∙ e)))
      ∙ not-true _ y)))

  no_9 : cause9 b ≡ false
  unfolding cause9 bad_condition value_bad
  no_9 = none_all (cond_count b) (bad_condition b) (λ i m.
      let (x, y) = v.on_task i (condition_in m) in
      let (z, u) = v.values i (condition_in m) in
      let k : is_kind b (f.task i) 0 ≡ true = is_kind_lem (f.task i) 0 x y in
      not_passed _ (absurd_or _ _
      (λ h. true≢false (sym k ∙ ap (λ (n : ℕ). is_kind b n 0) (sym (l.task i (condition_in m))) ∙ not-true _ h))
      (absurd_or _ _
      (λ (h : ltb 383 (cond_value b i) ≡ true).
      omega (arith, ltb-true 383 (cond_value b i) h, l.value i (condition_in m)))
      (λ h. omega (
        arith,
        leb-true (flag_count b) (flag_of (cond_value b i)) h,
        l.flags,
        ap flag_of (l.value i (condition_in m)),
      )))))

  no_10 : cause10 b ≡ false
  unfolding cause10 not_rising
  no_10 = none_all (cond_count b - 1) (not_rising (cond_node b) (cond_value b)) (λ i m.
      let q = l.conditions in
      rw (
        add-one i,
        l.task i (omega arith),
        l.value i (omega arith),
        l.task (suc i) (omega arith),
        l.value (suc i) (omega arith),
      )
      (below_test (f.task i) (f.value i) (f.task (suc i)) (f.value (suc i)) (v.rising i (omega arith))))

  no_11 : cause11 b ≡ false
  unfolding cause11
  no_11 = none_all (cond_count b) (λ i. any_below (cond_count b) (both_signs b i)) (λ i m.
      none_all (cond_count b) (both_signs b i) (λ j k. not_passed _ (λ h.
      let x = both_signs_lem b i j h in
      let p = l.value i (condition_in m) in
      let q = l.value j (condition_in k) in
      omega (
        arith,
        x.clear,
        x.set,
        ap sign_of p,
        ap sign_of q,
        v.one_sign i j (condition_in m) (condition_in k)
            (sym (l.task j (condition_in k)) ∙ x.node ∙ l.task i (condition_in m))
            (sym (ap place_of q) ∙ x.place ∙ ap place_of p) (sym (ap flag_of q) ∙ x.flag ∙ ap flag_of p),
      ))))

  no_12 : cause12 b ≡ false
  unfolding cause12 no_post post_of
  no_12 = none_all (cond_count b) (no_post b) (λ i m. not_passed _ (λ h.
      let (x, y) = and_both (eqb (place_of (cond_value b i)) 1) (not (any_below (cond_count b) (post_of b i))) h in
      let p = l.value i (condition_in m) in
      let (j, k, e, g, z) = v.inc_post i (condition_in m) (sym (ap place_of p) ∙ eqb-true _ _ x) in
      let q = l.value j k in
      true≢false (sym (some_yes (cond_count b) (post_of b i) j (omega (arith, l.conditions)) (simp (
        eq-eqb (cond_node b j) (cond_node b i) (l.task j k ∙ e ∙ sym (l.task i (condition_in m))),
        eq-eqb (flag_of (cond_value b j)) (flag_of (cond_value b i)) (ap flag_of q ∙ g ∙ sym (ap flag_of p)),
        eq-eqb (place_of (cond_value b j)) 2 (ap place_of q ∙ z),
      ))) ∙ not-true _ y)))

  no_13 : cause13 b ≡ false
  unfolding cause13 bad_order bad_pair is_child
  no_13 = none_all (order_count b) (bad_order b) (λ j m.
      let (z, o, n, e, k) = v.siblings j (order_in m) in
      let x = f.earlier j in
      let y = f.later j in
      let px : parent_of b x ≡ f.parent x = l.parent x (omega arith) in
      let py : parent_of b y ≡ f.parent x = l.parent y n ∙ sym e in
      let (lt, gr) = v.parents x z (omega arith) in
      rw (l.earlier j (order_in m), l.later j (order_in m), px, py)
      (simp (
        is_kind_lem (f.parent x) 1 (omega arith) k,
        lt-ltb 0 x z,
        lt-ltb x (node_count b) (omega (arith, l.nodes)),
        lt-ltb 0 y (omega arith),
        lt-ltb y (node_count b) (omega (arith, l.nodes)),
        eq-eqb (f.parent x) (f.parent x) refl,
        lt-ltb x y o,
      )))

  no_14 : cause14 b ≡ false
  unfolding cause14 not_rising
  no_14 = none_all (order_count b - 1) (not_rising (earlier_of b) (later_of b)) (λ i m.
      let q = l.orders in
      rw (
        add-one i,
        l.earlier i (omega arith),
        l.later i (omega arith),
        l.earlier (suc i) (omega arith),
        l.later (suc i) (omega arith),
      )
      (below_test (f.earlier i) (f.later i) (f.earlier (suc i)) (f.later (suc i))
      (v.rising_orders i (omega arith))))

  pub accepted : refusal b ≡ 0
  unfolding refusal
  accepted = rw (no_1, no_2, no_3, no_4, no_5, no_6, no_7, no_8, no_9, no_10, no_11, no_12, no_13, no_14)
