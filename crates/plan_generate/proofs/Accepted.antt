-- "Every book made passes the book rules" (02). Assumes nothing.
use mathlib.Core.Path.{◌≡◌, refl, sym, ap, ◌∙◌}
use mathlib.Core.Logic.{◌≢◌, inl, inr, by_cases}
use mathlib.Core.Bool.{Bool, true, false, cond, ◌&&◌, or-true}
use mathlib.Core.List.{List}
use Prim.Native.Nat.{ℕ, suc, ◌+◌, ◌-◌, ◌*◌, ◌/◌, ◌%◌, ◌^◌, ◌<◌, ◌≤◌}
use native.Mathlib.Nat.{mod-eq_of_lt, zero-div}
use native.Mathlib.Decide.{ℕ_discrete, dec_le}
use native.Mathlib.Omega.{arith}
use lib.Dec.{eqb, leb}
use borrow.Author.Tests.{le-leb}
use Rattle.plan_codes.specs.Names.{name_allowed}
use Rattle.plan_codes.specs.Values.{flag_of, sign_of, place_of}
use Rattle.plan_rules.specs.Rules.{refusal}
use Rattle.plan_rules.proofs.Rising.{Below}
use Rattle.plan_layout.specs.Fields.{Laid}
use Rattle.plan_layout.proofs.Valid.{Valid}
use Rattle.plan_layout.proofs.Accepted.{accepted}
use Rattle.plan_draws.specs.declared.Recipe.{Recipe}
use Rattle.plan_draws.specs.Drawn.{Allowed}
use Rattle.plan_draws.specs.Model.{kind_drawn, comes_before, order_number, ordered_group, kind_in, value_in}
use Rattle.plan_draws.proofs.Picked.{pick_rises}
use Rattle.plan_draws.proofs.Fields.{kind_root, kind_drawn_lem, kind_task, minutes_group, value_pre, value_post}
use Rattle.plan_generate.specs.Model.{root_char, number_char, name_in, parent_in, generated}
use Rattle.plan_generate.proofs.Bytes.{parent_root, parent_group, parent_task, turn, draw_small, flag_small}
use Rattle.plan_generate.proofs.Bytes.{pre_small, post_small, minutes_small, order_at_lem, sizes_limited}

-- ---- names
digit_allowed : (d : ℕ) → d ≤ 9 → name_allowed (48 + d) ≡ true
unfolding name_allowed
digit_allowed d l = rw (le-leb 48 (48 + d) (omega arith), le-leb (48 + d) 57 (omega arith))

letter_allowed : (d : ℕ) → 65 ≤ d → d ≤ 90 → name_allowed d ≡ true
unfolding name_allowed
letter_allowed d l m = rw (le-leb 65 d l, le-leb d 90 m) (or-true (leb 48 d && leb d 57))

root_allowed : (c : ℕ) → name_allowed (root_char c) ≡ true
unfolding root_char
root_allowed c = at (eqb c 0) (eqb c 1) (eqb c 2)
  where
    at : (x y z : Bool) → name_allowed (cond x 83 (cond y 79 (cond z 65 75))) ≡ true
    at true y z = letter_allowed 83 (omega arith) (omega arith)
    at false true z = letter_allowed 79 (omega arith) (omega arith)
    at false false true = letter_allowed 65 (omega arith) (omega arith)
    at false false false = letter_allowed 75 (omega arith) (omega arith)

number_allowed : (g n c : ℕ) → n < 1000 → name_allowed (number_char g n c) ≡ true
unfolding number_char
number_allowed g n c l = at (eqb c 0) (leb n g) (eqb c 1) (eqb c 2)
  where
    at : (x u y z : Bool)
        → name_allowed (cond x (cond u 71 84) (cond y (48 + n / 100) (cond z (48 + n / 10 % 10) (48 + n % 10)))) ≡ true
    at true true y z = letter_allowed 71 (omega arith) (omega arith)
    at true false y z = letter_allowed 84 (omega arith) (omega arith)
    at false u true z = digit_allowed (n / 100) (omega arith)
    at false u false true = digit_allowed (n / 10 % 10) (omega arith)
    at false u false false = digit_allowed (n % 10) (omega arith)

name_allowed_lem : (g k : ℕ) → k / 4 < 1000 → name_allowed (name_in g k) ≡ true
unfolding name_in
name_allowed_lem g k l = at (eqb (k / 4) 0)
  where
    at : (x : Bool) → name_allowed (cond x (root_char (k % 4)) (number_char g (k / 4) (k % 4))) ≡ true
    at true = root_allowed (k % 4)
    at false = number_allowed g (k / 4) (k % 4) l

module _ (r : Recipe) (ok : Allowed r) where
  -- ---- nodes
  kind_small : (i : ℕ) → kind_drawn r i < 2
  unfolding kind_drawn
  kind_small i = draw_small _ _ 2 (omega arith)

  kind_group : (n : ℕ) → 0 < n → n ≤ r.groups → (1 ≤ kind_in r n) × (kind_in r n ≤ 2)
  kind_group n z l = let e = kind_drawn_lem r n z l in (omega arith, omega (arith, kind_small (n - 1)))

  kind_limit : (n : ℕ) → kind_in r n ≤ 3
  kind_limit n =
      by_cases (ℕ_discrete n 0) (λ (e : n ≡ 0). omega (arith, kind_root r n e))
      (λ ne. by_cases (dec_le n r.groups) (λ (l : n ≤ r.groups). omega (arith, (kind_group n (omega arith) l).1))
      (λ l. omega (arith, kind_task r n (omega arith))))

  -- a node that is no task
  not_task : (n : ℕ) → kind_in r n ≢ 0 → n ≤ r.groups
  not_task n k = by_cases (dec_le n r.groups) (λ (l : n ≤ r.groups). l)
      (λ l. absurd (k (sym (kind_task r n (omega arith)))))

  parent_below : (n : ℕ) → 0 < n → (parent_in r.groups n < n) × (kind_in r (parent_in r.groups n) ≢ 0)
  parent_below n z =
      by_cases (dec_le n r.groups)
      (λ (l : n ≤ r.groups). rw (← parent_group r.groups n z l) (z, λ q. omega (arith, kind_root r 0 refl)))
      (λ l. let x = turn r.groups n ok.some_group in rw (← parent_task r.groups n (omega arith)) (
        omega arith,
        λ q. omega (arith, (kind_group (1 + (n - 1 - r.groups) % r.groups) (omega arith) (omega arith)).0),
      ))

  -- the first task under each group
  turned : (n : ℕ) → 0 < n → n ≤ r.groups → 1 + (r.groups + n - 1 - r.groups) % r.groups ≡ n
  turned n z l = let e : r.groups + n - 1 - r.groups ≡ n - 1 = omega arith in
      let q : (n - 1) % r.groups ≡ n - 1 = mod-eq_of_lt (omega arith) in
      rw (e, q) (omega arith)

  child : (n : ℕ) → kind_in r n ≢ 0 → (c : ℕ) × (c < 1 + r.groups + r.tasks) × (parent_in r.groups c ≡ n)
  child n k =
      by_cases (ℕ_discrete n 0)
      (λ (e : n ≡ 0). (
        1,
        omega (arith, ok.some_group),
        sym (parent_group r.groups 1 (omega arith) ok.some_group) ∙ sym e,
      ))
      (λ ne. let l = not_task n k in (
        r.groups + n,
        omega (arith, ok.enough_tasks),
        sym (parent_task r.groups (r.groups + n) (omega arith)) ∙ turned n (omega arith) l,
      ))

  -- ---- conditions
  record ValueIn (i : ℕ) : Type 0 where
    few : value_in r i ≤ 383
    flag : flag_of (value_in r i) < 8
    place : place_of (value_in r i) ≡ 2 * (i % 2)
    -- a need is below a leaving
    low : i % 2 ≡ 0 → value_in r i < 128
    high : i % 2 ≡ 1 → 256 ≤ value_in r i

  value_at : (i : ℕ) → ValueIn i
  unfolding flag_of place_of
  value_at i =
      let x = flag_small r (i / 2) in
      by_cases (ℕ_discrete (i % 2) 0)
      (λ (e : i % 2 ≡ 0).
      let v = value_pre r i e in
      let y = pre_small r (i / 2) in
      record {
        few = omega arith;
        flag = omega arith;
        place = omega arith;
        low = λ u. omega arith;
        high = λ u. omega arith;
      })
      (λ ne.
      let v = value_post r i (omega arith) in
      let y = post_small r (i / 2) in
      record {
        few = omega arith;
        flag = omega arith;
        place = omega arith;
        low = λ u. omega arith;
        high = λ u. omega arith;
      })

  value_rises : (i : ℕ) → Below (1 + r.groups + i / 2) (value_in r i) (1 + r.groups + suc i / 2) (value_in r (suc i))
  value_rises i =
      by_cases (ℕ_discrete (i % 2) 0)
      (λ (e : i % 2 ≡ 0). inr (omega arith, omega (arith, (value_at i).low e, (value_at (suc i)).high (omega arith))))
      (λ ne. inl (omega arith))

  -- two conditions of one task at one place are one
  one_value : (i j : ℕ) → 1 + r.groups + j / 2 ≡ 1 + r.groups + i / 2
      → place_of (value_in r j) ≡ place_of (value_in r i) → sign_of (value_in r j) ≡ sign_of (value_in r i)
  one_value i j e p = let q : j ≡ i = omega (arith, e, p, (value_at i).place, (value_at j).place) in
      ap (λ (n : ℕ). sign_of (value_in r n)) q

  -- ---- orders
  sibling : (m : ℕ) → m < order_number r → (0 < 1 + ordered_group r m) × (1 + ordered_group r m < 2 + ordered_group r m)
      × (2 + ordered_group r m < 1 + r.groups + r.tasks)
      × (parent_in r.groups (1 + ordered_group r m) ≡ parent_in r.groups (2 + ordered_group r m))
      × (kind_in r (parent_in r.groups (1 + ordered_group r m)) ≡ 1)
  sibling m l =
      let x = (order_at_lem r m l).below in
      let e = parent_group r.groups (1 + ordered_group r m) (omega arith) (omega arith) in (
        omega arith,
        omega arith,
        omega (arith, ok.enough_tasks),
        sym e ∙ parent_group r.groups (2 + ordered_group r m) (omega arith) (omega arith),
        rw (← e) (sym (kind_root r 0 refl)),
      )

  orders_rise : (m : ℕ) → suc m < order_number r → ordered_group r m < ordered_group r (suc m)
  unfolding order_number ordered_group
  orders_rise m l = pick_rises (comes_before r) (r.groups - 1) m (suc m) (omega arith) l

  no_bit : (x : ℕ) → 0 / x % 2 ≡ 0
  no_bit x = rw (zero-div x)

  generated_valid : Valid (generated r)
  unfolding generated
  generated_valid = record {
    some_node = omega arith;
    some_flag = omega arith;
    limited = sizes_limited r ok;
    starts = λ k l m. no_bit (2 ^ (k % 8));
    names = λ k l. name_allowed_lem r.groups k (omega (arith, ok.few_groups, ok.few_tasks));
    kinds = λ n l. kind_limit n;
    no_minutes = λ n l k. sym (minutes_group r n (not_task n k));
    few_minutes = λ n l. omega (arith, minutes_small r n);
    root = sym (parent_root r.groups 0 refl);
    parents = λ n z l. parent_below n z;
    children = λ n l k. child n k;
    on_task = λ i l. (omega arith, sym (kind_task r (1 + r.groups + i / 2) (omega arith)));
    values = λ i l. ((value_at i).few, (value_at i).flag);
    rising = λ i l. value_rises i;
    one_sign = λ i j l m e p q. one_value i j e p;
    inc_post = λ i l e. absurd (omega (arith, (value_at i).place, e));
    siblings = sibling;
    rising_orders = λ m l. inl (omega (arith, orders_rise m l));
  }

  pub generated_accepted : (b : List ℕ) → Laid b (generated r) → refusal b ≡ 0
  generated_accepted b l = accepted b (generated r) l generated_valid
