-- The fields of accepted bytes obey the rules (`valid_of`). Assumes nothing.
use mathlib.Core.Path.{◌≡◌, sym, ◌∙◌}
use mathlib.Core.Logic.{◌≢◌, by_cases}
use mathlib.Core.Bool.{true, false, ◌&&◌, ◌||◌, true≢false}
use mathlib.Core.List.{List}
use Prim.Native.Nat.{ℕ, suc, ◌+◌, ◌*◌, ◌/◌, ◌%◌, ◌^◌, ◌<◌, ◌≤◌}
use native.Mathlib.Decide.{ℕ_discrete}
use native.Mathlib.Omega.{arith}
use lib.ListN.{get_or}
use lib.Dec.{ltb, leb}
use borrow.Author.Tests.{eq-eqb, ltb-false, leb-false, not-false}
use Rattle.plan_codes.specs.Names.{name_allowed}
use Rattle.plan_codes.specs.Values.{flag_of, sign_of, place_of, value_bad}
use Rattle.plan_format.specs.Format.{node_count, cond_count, order_count, flag_count, start_flag, name_char, parent_of}
use Rattle.plan_format.specs.Format.{kind_of}
use Rattle.plan_format.specs.Format.{minutes_of, cond_node, cond_value, earlier_of, later_of, is_kind, is_group}
use Rattle.plan_format.specs.Whole.{Whole}
use Rattle.plan_rules.specs.Rules.{refusal, bad_char, cause5, bad_entry, cause6, cause10, both_signs, cause11, post_of}
use Rattle.plan_rules.specs.Rules.{no_post, cause12, bad_order, cause13, cause14}
use Rattle.runs.specs.Searches.{any_below}
use Rattle.base.proofs.Booleans.{or_none}
use Rattle.runs.proofs.Searches.{none_at, found_at}
use Rattle.plan_rules.proofs.Causes.{root_parent, parent_group, condition_fits, both_signs_of, post_of_lem}
use Rattle.plan_rules.proofs.Rising.{Below, rising}
use Rattle.plan_check.proofs.Accepted.{Clean, clean, start_below}
use Rattle.plan_check.proofs.Meaning.{kind_group, kind_is, kind_of_lem, group_is, group_of, kind_limit, child_of}
use Rattle.plan_check.proofs.Meaning.{child_is}
use Rattle.plan_check.proofs.Meaning.{siblings}
use Rattle.plan_layout.specs.Layout.{Limited}
use Rattle.plan_layout.proofs.Valid.{Valid}
use Rattle.plan_parts.specs.Read.{sizes_of, fields_of}

pub limits : {b : List ℕ} → Whole b → Limited (sizes_of b)
limits w = record {
  nodes = w.limits.nodes;
  conditions = w.limits.conditions;
  orders = w.limits.orders;
  flags = w.limits.flags;
}

module _ (b : List ℕ) (acc : refusal b ≡ 0) where
  ok : Clean b
  ok = clean b acc

  entry_of : (i : ℕ) → i < node_count b → ((is_group b i && ltb 0 (minutes_of b i)) ≡ false)
      × ((is_kind b i 0 && ltb 10080 (minutes_of b i)) ≡ false)
  unfolding cause6 bad_entry
  entry_of i l =
      let (x, y) = or_none (ltb 3 (kind_of b i) || (is_group b i && ltb 0 (minutes_of b i)))
      (is_kind b i 0 && ltb 10080 (minutes_of b i)) (none_at (node_count b) (bad_entry b) ok.entries i l) in
      ((or_none (ltb 3 (kind_of b i)) (is_group b i && ltb 0 (minutes_of b i)) x).1, y)

  group_test : (i : ℕ) → i < node_count b → kind_of b i ≢ 0 → is_group b i ≡ true
  group_test i l k = group_of b ok i l (kind_group (kind_of b i) k)

  none_set : (i : ℕ) → i < node_count b → kind_of b i ≢ 0 → minutes_of b i ≡ 0
  none_set i l k = let x = rw (group_test i l k) at (entry_of i l).0 in omega (arith, ltb-false 0 (minutes_of b i) x)

  few_set : (i : ℕ) → i < node_count b → minutes_of b i ≤ 10080
  few_set i l =
      by_cases (ℕ_discrete (kind_of b i) 0)
      (λ (e : kind_of b i ≡ 0). ltb-false 10080 (minutes_of b i) (rw (kind_of_lem b i 0 l e) at (entry_of i l).1))
      (λ k. omega (arith, none_set i l k))

  bit_clear : (k : ℕ) → k < 64 → flag_count b ≤ k → get_or b (8 + k / 8) 0 / 2 ^ (k % 8) % 2 ≡ 0
  unfolding start_flag
  bit_clear k l m =
      by_cases (ℕ_discrete (get_or b (8 + k / 8) 0 / 2 ^ (k % 8) % 2) 1)
      (λ (e : get_or b (8 + k / 8) 0 / 2 ^ (k % 8) % 2 ≡ 1).
      absurd (omega (arith, start_below b ok k l (eq-eqb (get_or b (8 + k / 8) 0 / 2 ^ (k % 8) % 2) 1 e))))
      (λ ne. omega arith)

  name_good : (k : ℕ) → k < 4 * node_count b → name_allowed (name_char b k) ≡ true
  unfolding cause5 bad_char
  name_good k l = not-false _ (none_at (4 * node_count b) (bad_char b) ok.names k l)

  value_good : (i : ℕ) → i < cond_count b → (cond_value b i ≤ 383) × (flag_of (cond_value b i) < flag_count b)
  unfolding value_bad
  value_good i l =
      let w = condition_fits b ok.fits ok.conditions i l in
      let (x, y) = or_none (ltb 383 (cond_value b i)) (leb (flag_count b) (flag_of (cond_value b i))) w.1 in
      (ltb-false 383 (cond_value b i) x, leb-false (flag_count b) (flag_of (cond_value b i)) y)

  conditions_rise : (i : ℕ) → suc i < cond_count b
      → Below (cond_node b i) (cond_value b i) (cond_node b (suc i)) (cond_value b (suc i))
  unfolding cause10
  conditions_rise i l = rising (cond_node b) (cond_value b) (cond_count b) ok.rising i (suc i) (omega arith) l

  orders_rise : (i : ℕ) → suc i < order_count b
      → Below (earlier_of b i) (later_of b i) (earlier_of b (suc i)) (later_of b (suc i))
  unfolding cause14
  orders_rise i l = rising (earlier_of b) (later_of b) (order_count b) ok.rising_orders i (suc i) (omega arith) l

  -- a set sign beside a clear one
  no_both : (i j : ℕ) → i < cond_count b → j < cond_count b → cond_node b j ≡ cond_node b i
      → place_of (cond_value b j) ≡ place_of (cond_value b i) → flag_of (cond_value b j) ≡ flag_of (cond_value b i)
      → sign_of (cond_value b i) ≡ 0 → sign_of (cond_value b j) ≡ 1 → ⊥
  unfolding cause11
  no_both i j l m e p q x y = true≢false
      (sym (both_signs_of b i j (record { node = e; place = p; flag = q; clear = x; set = y }))
      ∙ none_at (cond_count b) (both_signs b i)
      (none_at (cond_count b) (λ i. any_below (cond_count b) (both_signs b i)) ok.signs i l) j m)

  sign_limit : (v : ℕ) → sign_of v < 2
  unfolding sign_of
  sign_limit v = omega arith

  same_sign : (i j : ℕ) → i < cond_count b → j < cond_count b → cond_node b j ≡ cond_node b i
      → place_of (cond_value b j) ≡ place_of (cond_value b i) → flag_of (cond_value b j) ≡ flag_of (cond_value b i)
      → sign_of (cond_value b j) ≡ sign_of (cond_value b i)
  same_sign i j l m e p q =
      let x = sign_limit (cond_value b i) in
      let y = sign_limit (cond_value b j) in
      by_cases (ℕ_discrete (sign_of (cond_value b i)) (sign_of (cond_value b j)))
      (λ (z : sign_of (cond_value b i) ≡ sign_of (cond_value b j)). sym z)
      (λ ne. by_cases (ℕ_discrete (sign_of (cond_value b i)) 0)
      (λ (z : sign_of (cond_value b i) ≡ 0). absurd (no_both i j l m e p q z (omega arith)))
      (λ z. absurd (no_both j i m l (sym e) (sym p) (sym q) (omega arith) (omega arith))))

  post_there : (i : ℕ) → i < cond_count b → place_of (cond_value b i) ≡ 1
      → (j : ℕ) × (j < cond_count b) × (cond_node b j ≡ cond_node b i)
      × (flag_of (cond_value b j) ≡ flag_of (cond_value b i))
      × (place_of (cond_value b j) ≡ 2)
  unfolding cause12 no_post
  post_there i l e =
      let x = rw (eq-eqb (place_of (cond_value b i)) 1 e) at (none_at (cond_count b) (no_post b) ok.posts i l) in
      let w = found_at (cond_count b) (post_of b i) (not-false _ x) in
      let q = post_of_lem b i w.0 w.2 in
      (w.0, w.1, q.node, q.flag, q.post)

  sibling : (j : ℕ) → j < order_count b
      → (0 < earlier_of b j) × (earlier_of b j < later_of b j) × (later_of b j < node_count b)
      × (parent_of b (earlier_of b j) ≡ parent_of b (later_of b j)) × (kind_of b (parent_of b (earlier_of b j)) ≡ 1)
  unfolding cause13 bad_order
  sibling j l =
      let s = siblings b ok (earlier_of b j) (later_of b j) (none_at (order_count b) (bad_order b) ok.orders j l) in
      let x = child_is b (parent_of b (earlier_of b j)) (earlier_of b j) s.2 in
      let y = child_is b (parent_of b (earlier_of b j)) (later_of b j) s.3 in
      (x.0, s.0, y.1, sym y.2, s.1)

  pub valid_of : Valid (fields_of b)
  valid_of = record {
    some_node = ok.fits.limits.some_node;
    some_flag = ok.fits.limits.some_flag;
    limited = limits ok.fits;
    starts = bit_clear;
    names = name_good;
    kinds = kind_limit b ok;
    no_minutes = none_set;
    few_minutes = few_set;
    root = root_parent b ok.fits ok.parents;
    parents = λ i z l. let (x, y) = parent_group b ok.fits ok.parents i z l in (x, group_is b (parent_of b i) y);
    children = λ g l k. let (n, z, m, e) = child_of b ok g l (group_test g l k) in (n, m, e);
    on_task = λ i l. kind_is b (cond_node b i) 0 (condition_fits b ok.fits ok.conditions i l).0;
    values = value_good;
    rising = conditions_rise;
    one_sign = same_sign;
    inc_post = post_there;
    siblings = sibling;
    rising_orders = orders_rise;
  }
