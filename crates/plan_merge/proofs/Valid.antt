-- The fields of two accepted plans, merged within the limits, obey the rules. Assumes nothing.
use mathlib.Core.Path.{◌≡◌, refl, sym, ap, ◌∙◌}
use mathlib.Core.Logic.{◌≢◌, inl, by_cases}
use mathlib.Core.Bool.{Bool, true, false, cond}
use mathlib.Core.List.{List}
use Prim.Native.Nat.{ℕ, zero, suc, ◌+◌, ◌-◌, ◌*◌, ◌/◌, ◌%◌, ◌^◌, ◌<◌, ◌≤◌}
use native.Mathlib.Decide.{ℕ_discrete, dec_lt}
use native.Mathlib.Omega.{arith}
use lib.Dec.{leb}
use lib.ListN.{get_or}
use Rattle.plan_codes.specs.Names.{name_allowed}
use Rattle.plan_codes.specs.Values.{flag_of, sign_of, place_of}
use Rattle.plan_format.specs.Format.{node_count, cond_count, order_count, flag_count}
use Rattle.plan_rules.proofs.Rising.{Below}
use Rattle.plan_layout.specs.Layout.{Limited}
use Rattle.plan_layout.specs.Fields.{Fields}
use Rattle.plan_layout.proofs.Valid.{Valid}
use Rattle.plan_parts.specs.Read.{fields_of}
use Rattle.plan_merge.specs.Sentences.{hull_name}
use Rattle.plan_merge.specs.Model.{merged_sizes, merged_fields}
use Rattle.plan_merge.proofs.Fields.{Contains, contains_first, contains_second, start_of, root_kind, root_parent}
use Rattle.plan_merge.proofs.Fields.{root_minutes, hull_name_lem}
use Rattle.plan_merge.proofs.Contained.{kind_contained, minutes_contained, none_contained, parent_contained}
use Rattle.plan_merge.proofs.Contained.{child_contained}
use Rattle.plan_merge.proofs.Contained.{task_contained, value_contained, rising_contained, sign_contained}
use Rattle.plan_merge.proofs.Contained.{post_contained}
use Rattle.plan_merge.proofs.Contained.{siblings_contained, orders_contained}

-- one of n things, or thing j of those after them
pub data Half (n t x : ℕ) : Type 0 where
  first_half : x < n → Half n t x
  second_half : (j : ℕ) → x ≡ j + n → j < t → Half n t x

pub half_of : (n t x : ℕ) → x < n + t → Half n t x
half_of n t x l =
    by_cases (dec_lt x n) (λ (k : x < n). first_half k) (λ k. second_half (x - n) (omega arith) (omega arith))

-- the new root, a node of the first plan, or one of the second
pub data NodeSource (n t x : ℕ) : Type 0 where
  new_root : x ≡ 0 → NodeSource n t x
  of_first : (i : ℕ) → x ≡ i + 1 → i < n → NodeSource n t x
  of_second : (i : ℕ) → x ≡ i + (1 + n) → i < t → NodeSource n t x

pub source_of : (n t x : ℕ) → x < 1 + (n + t) → NodeSource n t x
source_of n t x l =
    by_cases (ℕ_discrete x 0) (λ (e : x ≡ 0). new_root e)
    (λ ne. by_cases (dec_lt (x - 1) n) (λ (k : x - 1 < n). of_first (x - 1) (omega arith) k)
    (λ k. of_second (x - 1 - n) (omega arith) (omega arith)))

root_allowed : (k : ℕ) → k < 4 → name_allowed (get_or hull_name k 0) ≡ true
unfolding name_allowed
root_allowed zero l = refl
root_allowed (suc zero) l = refl
root_allowed (suc (suc zero)) l = refl
root_allowed (suc (suc (suc zero))) l = refl
root_allowed (suc (suc (suc (suc k)))) l = absurd (omega arith)

module _ (b c : List ℕ) (v : Valid (fields_of b)) (w : Valid (fields_of c)) (small : Limited (merged_sizes b c)) where
  abbrev m : Fields
  m = merged_fields b c

  abbrev one : Contains m (fields_of b) 1 0 0
  one = contains_first b c

  abbrev two : Contains m (fields_of c) (1 + node_count b) (cond_count b) (order_count b)
  two = contains_second b c

  start_good : (k : ℕ) → k < 64 → (merged_sizes b c).flags ≤ k → m.start (k / 8) / 2 ^ (k % 8) % 2 ≡ 0
  start_good k l n = rw (start_of b c (k / 8)) (at (leb (flag_count b) (flag_count c)))
    where
      at : (x : Bool) → cond x ((fields_of c).start (k / 8)) ((fields_of b).start (k / 8)) / 2 ^ (k % 8) % 2 ≡ 0
      at true = w.starts k l (omega arith)
      at false = v.starts k l (omega arith)

  name_good : (k : ℕ) → k < 4 * (merged_sizes b c).nodes → name_allowed (m.name k) ≡ true
  name_good k l =
      by_cases (dec_lt k 4) (λ (z : k < 4). rw (hull_name_lem b c k z) (root_allowed k z))
      (λ z. by_cases (dec_lt (k - 4) (4 * node_count b))
      (λ (n : k - 4 < 4 * node_count b). rw (one.name k (k - 4) (omega arith) n) (v.names (k - 4) n))
      (λ n. rw (two.name k (k - 4 - 4 * node_count b) (omega arith) (omega arith))
      (w.names (k - 4 - 4 * node_count b) (omega arith))))

  kind_good : (x : ℕ) → NodeSource (node_count b) (node_count c) x → m.kind x ≤ 3
  kind_good x (new_root e) = omega (arith, ap m.kind e, (root_kind b c))
  kind_good x (of_first i e l) = kind_contained one v (omega arith) (root_kind b c) x i e l
  kind_good x (of_second i e l) = kind_contained two w (omega arith) (root_kind b c) x i e l

  minutes_good : (x : ℕ) → NodeSource (node_count b) (node_count c) x → m.minutes x ≤ 10080
  minutes_good x (new_root e) = omega (arith, ap m.minutes e, (root_minutes b c))
  minutes_good x (of_first i e l) = minutes_contained one v (omega arith) (root_kind b c) x i e l
  minutes_good x (of_second i e l) = minutes_contained two w (omega arith) (root_kind b c) x i e l

  none_good : (x : ℕ) → NodeSource (node_count b) (node_count c) x → m.kind x ≢ 0 → m.minutes x ≡ 0
  none_good x (new_root e) z = ap m.minutes e ∙ root_minutes b c
  none_good x (of_first i e l) z = none_contained one v (omega arith) (root_kind b c) x i e l z
  none_good x (of_second i e l) z = none_contained two w (omega arith) (root_kind b c) x i e l z

  parent_good : (x : ℕ) → 0 < x → NodeSource (node_count b) (node_count c) x
      → (m.parent x < x) × (m.kind (m.parent x) ≢ 0)
  parent_good x z (new_root e) = absurd (omega arith)
  parent_good x z (of_first i e l) = parent_contained one v (omega arith) (root_kind b c) x i e l
  parent_good x z (of_second i e l) = parent_contained two w (omega arith) (root_kind b c) x i e l

  child_good : (x : ℕ) → NodeSource (node_count b) (node_count c) x → m.kind x ≢ 0
      → (j : ℕ) × (j < 1 + (node_count b + node_count c)) × (m.parent j ≡ x)
  child_good x (new_root e) z = (1, omega (arith, v.some_node), one.root 1 refl v.some_node ∙ sym e)
  child_good x (of_first i e l) z = let (j, n, q) = child_contained one v (omega arith) (root_kind b c) x i e l z in
      (j + 1, omega arith, q)
  child_good x (of_second i e l) z = let (j, n, q) = child_contained two w (omega arith) (root_kind b c) x i e l z in
      (j + (1 + node_count b), omega arith, q)

  task_good : (x : ℕ) → Half (cond_count b) (cond_count c) x
      → (m.task x < 1 + (node_count b + node_count c)) × (m.kind (m.task x) ≡ 0)
  task_good x (first_half l) =
      let (a, d, e) = task_contained one v (omega arith) (root_kind b c) x x (omega arith) l in
      (omega arith, e)
  task_good x (second_half j q l) = let (a, d, e) = task_contained two w (omega arith) (root_kind b c) x j q l in
      (omega arith, e)

  value_good : (x : ℕ) → Half (cond_count b) (cond_count c) x
      → (m.value x ≤ 383) × (flag_of (m.value x) < (merged_sizes b c).flags)
  value_good x (first_half l) =
      let (a, d) = value_contained one v (omega arith) (root_kind b c) x x (omega arith) l in
      (a, omega arith)
  value_good x (second_half j q l) = let (a, d) = value_contained two w (omega arith) (root_kind b c) x j q l in
      (a, omega arith)

  rising_good : (x : ℕ) → Half (cond_count b) (cond_count c) x → Half (cond_count b) (cond_count c) (suc x)
      → Below (m.task x) (m.value x) (m.task (suc x)) (m.value (suc x))
  rising_good x (first_half l) (first_half n) =
      rising_contained one v (omega arith) (root_kind b c) x x (omega arith) l n
  rising_good x (first_half l) (second_half j q n) =
      let (a, d, e) = task_contained one v (omega arith) (root_kind b c) x x (omega arith) l in
      let (f, g, h) = task_contained two w (omega arith) (root_kind b c) (suc x) j q n in
      inl (omega arith)
  rising_good x (second_half j q n) (first_half l) = absurd (omega arith)
  rising_good x (second_half j q n) (second_half i r l) =
      rising_contained two w (omega arith) (root_kind b c) x j q n (omega arith)

  sign_good : (x y : ℕ) → Half (cond_count b) (cond_count c) x → Half (cond_count b) (cond_count c) y
      → m.task y ≡ m.task x → place_of (m.value y) ≡ place_of (m.value x) → flag_of (m.value y) ≡ flag_of (m.value x)
      → sign_of (m.value y) ≡ sign_of (m.value x)
  sign_good x y (first_half l) (first_half n) =
      sign_contained one v (omega arith) (root_kind b c) x x (omega arith) l y y
      (omega arith) n
  sign_good x y (first_half l) (second_half j q n) = λ t p g.
      let (a, d, e) = task_contained one v (omega arith) (root_kind b c) x x (omega arith) l in
      let (f, z, h) = task_contained two w (omega arith) (root_kind b c) y j q n in
      absurd (omega arith)
  sign_good x y (second_half j q n) (first_half l) = λ t p g.
      let (a, d, e) = task_contained one v (omega arith) (root_kind b c) y y (omega arith) l in
      let (f, z, h) = task_contained two w (omega arith) (root_kind b c) x j q n in
      absurd (omega arith)
  sign_good x y (second_half i r l) (second_half j q n) =
      sign_contained two w (omega arith) (root_kind b c) x i r l y j q n

  post_good : (x : ℕ) → Half (cond_count b) (cond_count c) x → place_of (m.value x) ≡ 1
      → (j : ℕ) × (j < (merged_sizes b c).conditions) × (m.task j ≡ m.task x)
      × (flag_of (m.value j) ≡ flag_of (m.value x)) × (place_of (m.value j) ≡ 2)
  post_good x (first_half l) p =
      let (j, n, t, g, z) = post_contained one v (omega arith) (root_kind b c) x x (omega arith) l p in
      (j + 0, omega arith, t, g, z)
  post_good x (second_half i q l) p =
      let (j, n, t, g, z) = post_contained two w (omega arith) (root_kind b c) x i q l p in
      (j + cond_count b, omega arith, t, g, z)

  sibling_good : (x : ℕ) → Half (order_count b) (order_count c) x
      → (0 < m.earlier x) × (m.earlier x < m.later x) × (m.later x < 1 + (node_count b + node_count c))
      × (m.parent (m.earlier x) ≡ m.parent (m.later x)) × (m.kind (m.parent (m.earlier x)) ≡ 1)
  sibling_good x (first_half l) =
      let (z, a, d, e, k) = siblings_contained one v (omega arith) (root_kind b c) x x (omega arith) l in
      (omega arith, a, omega arith, e, k)
  sibling_good x (second_half j q l) =
      let (z, a, d, e, k) = siblings_contained two w (omega arith) (root_kind b c) x j q l in
      (omega arith, a, omega arith, e, k)

  orders_good : (x : ℕ) → Half (order_count b) (order_count c) x → Half (order_count b) (order_count c) (suc x)
      → Below (m.earlier x) (m.later x) (m.earlier (suc x)) (m.later (suc x))
  orders_good x (first_half l) (first_half n) =
      orders_contained one v (omega arith) (root_kind b c) x x (omega arith) l n
  orders_good x (first_half l) (second_half j q n) =
      let (z, a, d, e, k) = siblings_contained one v (omega arith) (root_kind b c) x x (omega arith) l in
      let (f, g, h, i, r) = siblings_contained two w (omega arith) (root_kind b c) (suc x) j q n in
      inl (omega arith)
  orders_good x (second_half j q n) (first_half l) = absurd (omega arith)
  orders_good x (second_half j q n) (second_half i r l) =
      orders_contained two w (omega arith) (root_kind b c) x j q n (omega arith)

  pub merged_valid : Valid (merged_fields b c)
  merged_valid = record {
    some_node = omega arith;
    some_flag = omega (arith, v.some_flag);
    limited = small;
    starts = start_good;
    names = name_good;
    kinds = λ x l. kind_good x (node x l);
    no_minutes = λ x l. none_good x (node x l);
    few_minutes = λ x l. minutes_good x (node x l);
    root = root_parent b c;
    parents = λ x z l. parent_good x z (node x l);
    children = λ x l. child_good x (node x l);
    on_task = λ x l. task_good x (condition x l);
    values = λ x l. value_good x (condition x l);
    rising = λ x l. rising_good x (condition x (omega arith)) (condition (suc x) l);
    one_sign = λ x y l n. sign_good x y (condition x l) (condition y n);
    inc_post = λ x l. post_good x (condition x l);
    siblings = λ x l. sibling_good x (order x l);
    rising_orders = λ x l. orders_good x (order x (omega arith)) (order (suc x) l);
  }
    where
      node : (x : ℕ) → x < 1 + (node_count b + node_count c) → NodeSource (node_count b) (node_count c) x
      node x l = source_of (node_count b) (node_count c) x l

      condition : (x : ℕ) → x < (merged_sizes b c).conditions → Half (cond_count b) (cond_count c) x
      condition x l = half_of (cond_count b) (cond_count c) x (omega arith)

      order : (x : ℕ) → x < (merged_sizes b c).orders → Half (order_count b) (order_count c) x
      order x l = half_of (order_count b) (order_count c) x (omega arith)
