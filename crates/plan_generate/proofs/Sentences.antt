-- Bytes with the fields of a generated plan are the plan of its recipe in 02's words, and all such plans have one
-- length. Assumes nothing.
use mathlib.Core.Path.{◌≡◌, refl, sym, ap, ◌∙◌}
use mathlib.Core.Bool.{false, cond}
use mathlib.Core.List.{List, [], ◌∷◌}
use Prim.Native.Nat.{ℕ, zero, suc, ◌+◌, ◌-◌, ◌*◌, ◌/◌, ◌%◌, ◌^◌, ◌<◌, ◌≤◌}
use native.Mathlib.Nat.{zero-div}
use native.Mathlib.Omega.{arith}
use lib.ListN.{length}
use Rattle.base.specs.Each.{each}
use Rattle.base.proofs.Each.{each_same, each_long}
use Rattle.runs.specs.Plan.{pre, post, place_number}
use Rattle.plan_codes.specs.Values.{value_of}
use Rattle.plan_format.specs.Format.{cond_count, order_count, start_flag, name_char, name_of, whole_length, cond_node}
use Rattle.plan_format.specs.Format.{cond_value, earlier_of, later_of}
use Rattle.plan_format.specs.Pieces.{NodeIs, condition_pairs, order_pairs}
use Rattle.plan_check.proofs.Accepted.{clean}
use Rattle.plan_layout.specs.Layout.{plan_length}
use Rattle.plan_layout.specs.Fields.{Laid}
use Rattle.plan_layout.proofs.Names.{four}
use Rattle.plan_draws.specs.declared.Recipe.{Recipe}
use Rattle.plan_draws.specs.Drawn.{Allowed}
use Rattle.plan_draws.specs.Model.{kind_drawn, minutes_drawn, flag_drawn, pre_drawn, post_drawn, comes_before}
use Rattle.plan_draws.specs.Model.{order_number}
use Rattle.plan_draws.specs.Model.{ordered_group}
use Rattle.plan_draws.proofs.Drawn.{draws_of, draws_only}
use Rattle.plan_draws.proofs.PickedPairs.{each_picked}
use Rattle.plan_draws.proofs.Fields.{kind_root, kind_drawn_lem, kind_task, minutes_group, minutes_drawn_lem, value_pre}
use Rattle.plan_draws.proofs.Fields.{value_post}
use Rattle.plan_generate.specs.Sentences.{root_name, numbered_name, IsGenerated}
use Rattle.plan_generate.specs.Model.{name_in, sizes_in, generated}
use Rattle.plan_generate.proofs.Bytes.{name_group, name_task, root_chars, number_chars, parent_root}
use Rattle.plan_generate.proofs.Bytes.{parent_group, parent_task}
use Rattle.plan_generate.proofs.Accepted.{generated_accepted}

module _ (r : Recipe) (ok : Allowed r) (b : List ℕ) (l : Laid b (generated r)) where
  -- ---- nodes
  name_at : (k : ℕ) → k < 4 * (1 + r.groups + r.tasks) → name_char b k ≡ name_in r.groups k
  unfolding generated
  name_at k h = l.name k h

  name_of_lem : (n : ℕ) → n < 1 + r.groups + r.tasks → name_of b n ≡ four (name_in r.groups) n
  unfolding name_of
  name_of_lem n h = rw (
    name_at (4 * n) (omega arith),
    name_at (4 * n + 1) (omega arith),
    name_at (4 * n + 2) (omega arith),
    name_at (4 * n + 3) (omega arith),
  )

  number_name : (n c : ℕ) → 0 < n → n < 1 + r.groups + r.tasks → c ≡ name_in r.groups (4 * n)
      → name_of b n ≡ numbered_name c n
  number_name n c z h e = name_of_lem n h ∙ sym (number_chars r.groups n c z e)

  root_is : NodeIs b 0 root_name 255 1 0
  unfolding generated
  root_is = record {
    its_name = name_of_lem 0 (omega arith) ∙ sym (root_chars r.groups);
    its_parent = l.parent 0 (omega arith) ∙ sym (parent_root r.groups 0 refl);
    its_kind = l.kind 0 (omega arith) ∙ sym (kind_root r 0 refl);
    its_minutes = l.minutes 0 (omega arith) ∙ sym (minutes_group r 0 (omega arith));
  }

  group_is : (i : ℕ) → i < r.groups → NodeIs b (1 + i) (numbered_name 71 (1 + i)) 0 (1 + kind_drawn r i) 0
  unfolding generated
  group_is i h = let e : 1 + i - 1 ≡ i = omega arith in record {
    its_name = number_name (1 + i) 71 (omega arith) (omega arith)
        (name_group r.groups (4 * (1 + i)) (omega arith) (omega arith) (omega arith));
    its_parent = l.parent (1 + i) (omega arith) ∙ sym (parent_group r.groups (1 + i) (omega arith) (omega arith));
    its_kind = l.kind (1 + i) (omega arith) ∙ sym (kind_drawn_lem r (1 + i) (omega arith) (omega arith)) ∙ rw e;
    its_minutes = l.minutes (1 + i) (omega arith) ∙ sym (minutes_group r (1 + i) (omega arith));
  }

  task_is : (j : ℕ) → j < r.tasks
      → NodeIs b (1 + r.groups + j) (numbered_name 84 (1 + r.groups + j)) (1 + j % r.groups) 0 (minutes_drawn r j)
  unfolding generated
  task_is j h = let n = 1 + r.groups + j in let e : n - 1 - r.groups ≡ j = omega arith in record {
    its_name = number_name n 84 (omega arith) (omega arith) (name_task r.groups (4 * n) (omega arith) (omega arith));
    its_parent = l.parent n (omega arith) ∙ sym (parent_task r.groups n (omega arith)) ∙ rw e;
    its_kind = l.kind n (omega arith) ∙ sym (kind_task r n (omega arith));
    its_minutes = l.minutes n (omega arith) ∙ sym (minutes_drawn_lem r n (omega arith)) ∙ rw e;
  }

  -- ---- conditions
  abbrev pair_at : ℕ → List (ℕ × ℕ)
  pair_at i = (cond_node b i, cond_value b i) ∷ []

  abbrev pairs_of : ℕ → List (ℕ × ℕ)
  pairs_of j = (1 + r.groups + j, value_of (flag_drawn r j) (pre_drawn r j) (place_number pre))
      ∷ (1 + r.groups + j, value_of (flag_drawn r j) (post_drawn r j) (place_number post)) ∷ []

  module _ (j : ℕ) (h : j < r.tasks) where
    node_at : (i : ℕ) → i < 2 * r.tasks → i / 2 ≡ j → cond_node b i ≡ 1 + r.groups + j
    unfolding generated
    node_at i k e = l.task i k ∙ rw e

    pre_at : (i : ℕ) → i ≡ 2 * j → cond_value b i ≡ value_of (flag_drawn r j) (pre_drawn r j) 0
    unfolding generated
    pre_at i e = let q : i / 2 ≡ j = omega arith in
        l.value i (omega arith) ∙ value_pre r i (omega arith) ∙ rw q (omega arith)

    post_at : (i : ℕ) → i ≡ suc (2 * j) → cond_value b i ≡ value_of (flag_drawn r j) (post_drawn r j) 2
    unfolding generated
    post_at i e = let q : i / 2 ≡ j = omega arith in
        l.value i (omega arith) ∙ value_post r i (omega arith) ∙ rw q (omega arith)

  conditions_from : (n j i : ℕ) → j + n ≤ r.tasks → i ≡ 2 * j → each pair_at i (2 * n) ≡ each pairs_of j n
  conditions_from zero j i h e = refl
  conditions_from (suc n) j i h e =
      let q : 2 * suc n ≡ suc (suc (2 * n)) = omega arith in
      rw (
        q,
        node_at j (omega arith) i (omega arith) (omega arith),
        node_at j (omega arith) (suc i) (omega arith) (omega arith),
        pre_at j (omega arith) i e,
        post_at j (omega arith) (suc i) (omega arith),
        conditions_from n (suc j) (suc (suc i)) (omega arith) (omega arith),
      )

  conditions_are : condition_pairs b ≡ each pairs_of 0 r.tasks
  unfolding generated
  conditions_are = rw l.conditions (conditions_from r.tasks 0 0 (omega arith) refl)

  -- ---- orders
  orders_are : order_pairs b ≡ each (λ i. cond (comes_before r i) ((1 + i, 2 + i) ∷ []) []) 0 (r.groups - 1)
  unfolding generated order_number ordered_group
  orders_are = rw l.orders
      (each_same (λ j. (earlier_of b j, later_of b j) ∷ []) (λ m. (1 + ordered_group r m, 2 + ordered_group r m) ∷ [])
      0 (order_number r)
      (λ m z h. rw (l.earlier m (omega arith), l.later m (omega arith)))
      ∙ each_picked (comes_before r) (λ i. (1 + i, 2 + i)) (r.groups - 1))

  -- ---- flags
  start_clear : (f : ℕ) → f < 8 → start_flag b f ≡ false
  unfolding start_flag generated
  start_clear f h = rw (l.start (f / 8) (omega arith), zero-div (2 ^ (f % 8)))

  pub is_generated : IsGenerated r b
  unfolding draws_of comes_before generated
  is_generated = record {
    draws = draws_of r;
    passes = generated_accepted r ok b l;
    nodes = l.nodes;
    root = root_is;
    group = group_is;
    task = task_is;
    conditions = conditions_are;
    orders = orders_are;
    flags = l.flags;
    clear = start_clear;
  }

-- ---- the length
module _ (r : Recipe) (b : List ℕ) (h : IsGenerated r b) where
  pub condition_count : cond_count b ≡ 2 * r.tasks
  condition_count = omega (
    arith,
    ap length h.conditions,
    each_long (λ i. (cond_node b i, cond_value b i) ∷ []) 1 (λ i. refl) 0 (cond_count b),
    each_long (λ j. (1 + r.groups + j, value_of (h.draws.flag j) (h.draws.pre j) (place_number pre))
        ∷ (1 + r.groups + j, value_of (h.draws.flag j) (h.draws.post j) (place_number post)) ∷ []) 2 (λ j. refl) 0
        r.tasks,
  )

  pub orders_drawn_lem : order_pairs b
      ≡ each (λ m. (1 + ordered_group r m, 2 + ordered_group r m) ∷ []) 0 (order_number r)
  unfolding order_number ordered_group comes_before
  orders_drawn_lem = h.orders
      ∙ each_same _ (λ i. cond (comes_before r i) ((1 + i, 2 + i) ∷ []) []) 0 (r.groups - 1)
      (λ i z l. rw ((draws_only r h.draws).before i (omega arith)))
      ∙ sym (each_picked (comes_before r) (λ i. (1 + i, 2 + i)) (r.groups - 1))

  pub order_count_lem : order_count b ≡ order_number r
  order_count_lem = omega (
    arith,
    ap length orders_drawn_lem,
    each_long (λ j. (earlier_of b j, later_of b j) ∷ []) 1 (λ j. refl) 0 (order_count b),
    each_long (λ m. (1 + ordered_group r m, 2 + ordered_group r m) ∷ []) 1 (λ m. refl) 0 (order_number r),
  )

  pub generated_long : length b ≡ plan_length (sizes_in r)
  unfolding whole_length
  generated_long = omega (arith, (clean b h.passes).fits.whole, h.nodes, condition_count, order_count_lem)
