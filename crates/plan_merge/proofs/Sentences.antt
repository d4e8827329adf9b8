-- Bytes with the merged fields are the merged plan in 02's words (`is_merged`). Assumes nothing.
use mathlib.Core.Path.{◌≡◌, refl, sym, ◌∙◌}
use mathlib.Core.Logic.{by_cases}
use mathlib.Core.Bool.{beq, false, not}
use mathlib.Core.List.{List, [], ◌∷◌, ◌++◌}
use Prim.Native.Nat.{ℕ, zero, suc, ◌+◌, ◌*◌, ◌/◌, ◌<◌, ◌≤◌, min}
use native.Mathlib.Decide.{dec_le}
use native.Mathlib.Omega.{arith}
use lib.ListN.{get_or}
use borrow.Author.Tests.{le-leb, lt-leb}
use Rattle.base.specs.Each.{each}
use Rattle.base.proofs.Booleans.{beq_same}
use Rattle.base.proofs.Each.{each_moved, each_append}
use Rattle.runs.proofs.Searches.{none_at}
use Rattle.plan_format.specs.Format.{node_count, cond_count, order_count, flag_count, start_flag, name_char, name_of}
use Rattle.plan_format.specs.Format.{parent_of}
use Rattle.plan_format.specs.Format.{cond_node, cond_value, earlier_of, later_of}
use Rattle.plan_format.specs.Pieces.{NodeIs, condition_pairs, order_pairs}
use Rattle.plan_rules.specs.Rules.{refusal}
use Rattle.plan_layout.specs.Fields.{Fields, Laid}
use Rattle.plan_layout.proofs.Accepted.{accepted}
use Rattle.plan_parts.specs.Read.{fields_of}
use Rattle.plan_merge.specs.Sentences.{hull_name, shifted_parent, NodeShifted, shifted_conditions, shifted_orders}
use Rattle.plan_merge.specs.Sentences.{IsMerged}
use Rattle.plan_merge.specs.Model.{merged_fields, refused34}
use Rattle.plan_merge.specs.Inner.{Mergeable}
use Rattle.plan_merge.proofs.Fields.{Contains, contains_first, contains_second, start_of, root_kind, root_parent}
use Rattle.plan_merge.proofs.Fields.{root_minutes, hull_name_lem}
use Rattle.plan_merge.proofs.Bytes.{whole_first, whole_second, valid}

-- ---- what the bytes m carry of a plan d, whose nodes begin at s, its conditions at c, its orders at k
module _ (m : List ℕ) (f : Fields) (l : Laid m f) (d : List ℕ) (s c k : ℕ) (h : Contains f (fields_of d) s c k) where
  parent_from : (i : ℕ) → s + i < f.sizes.nodes → i < node_count d → parent_of m (s + i) ≡ shifted_parent s d i
  parent_from zero w n = l.parent (s + 0) w ∙ h.root (s + 0) (omega arith) n
  parent_from (suc i) w n = l.parent (s + suc i) w ∙ h.parent (s + suc i) (suc i) (omega arith) (omega arith) n

  char_from : (i j x : ℕ) → s + i < f.sizes.nodes → i < node_count d → j < 4 → x ≡ 4 * i + j
      → name_char m (4 * (s + i) + j) ≡ name_char d x
  char_from i j x w n q e = l.name (4 * (s + i) + j) (omega arith)
      ∙ h.name (4 * (s + i) + j) x (omega arith) (omega arith)

  name_from : (i : ℕ) → s + i < f.sizes.nodes → i < node_count d → name_of m (s + i) ≡ name_of d i
  unfolding name_of
  name_from i w n =
      let z : 4 * (s + i) + 0 ≡ 4 * (s + i) = omega arith in
      rw (
        rw z at (char_from i 0 (4 * i) w n (omega arith) (omega arith)),
        char_from i 1 (4 * i + 1) w n (omega arith) refl,
        char_from i 2 (4 * i + 2) w n (omega arith) refl,
        char_from i 3 (4 * i + 3) w n (omega arith) refl,
      )

  pub node_from : (i : ℕ) → s + i < f.sizes.nodes → i < node_count d → NodeShifted s d m i
  node_from i w n = record {
    its_name = name_from i w n;
    its_parent = parent_from i w n;
    its_kind = l.kind (s + i) w ∙ h.kind (s + i) i (omega arith) n;
    its_minutes = l.minutes (s + i) w ∙ h.minutes (s + i) i (omega arith) n;
  }

  pub conditions_from : c + cond_count d ≤ f.sizes.conditions
      → each (λ i. (cond_node m i, cond_value m i) ∷ []) c (cond_count d) ≡ shifted_conditions s d
  conditions_from w = each_moved (λ i. (cond_node m i, cond_value m i) ∷ [])
      (λ i. (cond_node d i + s, cond_value d i) ∷ []) c 0 (cond_count d) (λ i n. let e : 0 + i ≡ i = omega arith in rw (
        e,
        l.task (c + i) (omega arith) ∙ h.task (c + i) i (omega arith) n,
        l.value (c + i) (omega arith) ∙ h.value (c + i) i (omega arith) n,
      ))

  pub orders_from : k + order_count d ≤ f.sizes.orders
      → each (λ j. (earlier_of m j, later_of m j) ∷ []) k (order_count d) ≡ shifted_orders s d
  orders_from w = each_moved (λ j. (earlier_of m j, later_of m j) ∷ [])
      (λ j. (earlier_of d j + s, later_of d j + s) ∷ []) k 0 (order_count d)
      (λ j n. let e : 0 + j ≡ j = omega arith in rw (
        e,
        l.earlier (k + j) (omega arith) ∙ h.earlier (k + j) j (omega arith) n,
        l.later (k + j) (omega arith) ∙ h.later (k + j) j (omega arith) n,
      ))

-- where 34 does not apply, a flag of both starts alike
pub alike : (b c : List ℕ) → refused34 b c ≡ false → (f : ℕ) → f < flag_count b → f < flag_count c
    → start_flag b f ≡ start_flag c f
unfolding refused34
alike b c h f x y = beq_same (start_flag b f) (start_flag c f)
    (none_at (min (flag_count b) (flag_count c)) (λ i. not (beq (start_flag b i) (start_flag c i))) h f (omega arith))

module _ (b c : List ℕ) (ok : Mergeable b c) (m : List ℕ) (l : Laid m (merged_fields b c)) where
  pub merged_accepted : refusal m ≡ 0
  merged_accepted = accepted m (merged_fields b c) l (valid b c ok)

  -- ---- the new root
  root_char_lem : (k : ℕ) → k < 4 → name_char m k ≡ get_or hull_name k 0
  root_char_lem k n = l.name k (omega arith) ∙ hull_name_lem b c k n

  root_is : NodeIs m 0 hull_name 255 1 0
  unfolding name_of
  root_is = record {
    its_name = rw (
      root_char_lem 0 (omega arith),
      root_char_lem 1 (omega arith),
      root_char_lem 2 (omega arith),
      root_char_lem 3 (omega arith),
    );
    its_parent = l.parent 0 (omega arith) ∙ root_parent b c;
    its_kind = l.kind 0 (omega arith) ∙ root_kind b c;
    its_minutes = l.minutes 0 (omega arith) ∙ root_minutes b c;
  }

  -- ---- conditions and orders: those of the first, then those of the second
  conditions_are : condition_pairs m ≡ shifted_conditions 1 b ++ shifted_conditions (1 + node_count b) c
  conditions_are =
      let e : cond_count m ≡ cond_count b + cond_count c = omega (arith, l.conditions) in
      let z : 0 + cond_count b ≡ cond_count b = omega arith in
      rw e (each_append (λ i. (cond_node m i, cond_value m i) ∷ []) 0 (cond_count b) (cond_count c) ∙ rw (
        z,
        conditions_from m _ l b 1 0 0 (contains_first b c) (omega arith),
        conditions_from m _ l c (1 + node_count b) (cond_count b) (order_count b) (contains_second b c) (omega arith),
      ))

  orders_are : order_pairs m ≡ shifted_orders 1 b ++ shifted_orders (1 + node_count b) c
  orders_are =
      let e : order_count m ≡ order_count b + order_count c = omega (arith, l.orders) in
      let z : 0 + order_count b ≡ order_count b = omega arith in
      rw e (each_append (λ j. (earlier_of m j, later_of m j) ∷ []) 0 (order_count b) (order_count c) ∙ rw (
        z,
        orders_from m _ l b 1 0 0 (contains_first b c) (omega arith),
        orders_from m _ l c (1 + node_count b) (cond_count b) (order_count b) (contains_second b c) (omega arith),
      ))

  -- ---- the flags at the start
  starts_as : (d : List ℕ) (f : ℕ) → f < 64 → get_or m (8 + f / 8) 0 ≡ get_or d (8 + f / 8) 0
      → start_flag m f ≡ start_flag d f
  unfolding start_flag
  starts_as d f n e = rw e

  more_first : (f : ℕ) → f < 64 → flag_count c < flag_count b → start_flag m f ≡ start_flag b f
  more_first f n w = starts_as b f n (l.start (f / 8) (omega arith) ∙ start_of b c (f / 8)
      ∙ rw (lt-leb (flag_count b) (flag_count c) w))

  more_second : (f : ℕ) → f < 64 → flag_count b ≤ flag_count c → start_flag m f ≡ start_flag c f
  more_second f n w = starts_as c f n (l.start (f / 8) (omega arith) ∙ start_of b c (f / 8)
      ∙ rw (le-leb (flag_count b) (flag_count c) w))

  pub starts_first : (f : ℕ) → f < flag_count b → start_flag m f ≡ start_flag b f
  starts_first f n =
      let x = (whole_first b c ok).limits.flags in
      by_cases (dec_le (flag_count b) (flag_count c))
      (λ (w : flag_count b ≤ flag_count c). more_second f (omega arith) w ∙ sym (alike b c ok.alike f n (omega arith)))
      (λ w. more_first f (omega arith) (omega arith))

  pub starts_second : (f : ℕ) → f < flag_count c → start_flag m f ≡ start_flag c f
  starts_second f n =
      let x = (whole_second b c ok).limits.flags in
      by_cases (dec_le (flag_count b) (flag_count c))
      (λ (w : flag_count b ≤ flag_count c). more_second f (omega arith) w)
      (λ w. more_first f (omega arith) (omega arith) ∙ alike b c ok.alike f (omega arith) n)

  pub is_merged : IsMerged b c m
  is_merged = record {
    passes = merged_accepted;
    nodes = omega (arith, l.nodes);
    root = root_is;
    first_nodes = λ i n. node_from m _ l b 1 0 0 (contains_first b c) i (omega arith) n;
    second_nodes = λ i n. node_from m _ l c (1 + node_count b) (cond_count b) (order_count b) (contains_second b c) i
        (omega arith) n;
    conditions = conditions_are;
    orders = orders_are;
    flags = omega (arith, l.flags);
    starts_first = starts_first;
    starts_second = starts_second;
  }
