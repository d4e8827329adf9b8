-- 02's words leave no choice: no other bytes are the plan merged from two (`merged_only`). Assumes nothing.
use mathlib.Core.Path.{◌≡◌, refl, sym, ap, ◌∙◌}
use mathlib.Core.Logic.{by_cases}
use mathlib.Core.Bool.{false}
use mathlib.Core.List.{List, [], ◌∷◌, ◌++◌}
use Prim.Native.Nat.{ℕ, zero, suc, ◌+◌, ◌*◌, ◌/◌, ◌<◌, ◌≤◌}
use native.Mathlib.Decide.{dec_lt}
use native.Mathlib.Omega.{arith}
use lib.ListN.{length, get_or, get_or-append}
use lib.Seq.{ext_get_or, get_or-append-add}
use Rattle.base.specs.Bytes.{Bytes}
use Rattle.base.specs.Each.{each}
use Rattle.base.proofs.Booleans.{not_passed}
use Rattle.base.proofs.Each.{each_long, each_at}
use Rattle.plan_format.specs.Format.{node_count, cond_count, order_count, flag_count, start_flag, name_char, name_of}
use Rattle.plan_format.specs.Format.{cond_node}
use Rattle.plan_format.specs.Format.{cond_value, earlier_of, later_of}
use Rattle.plan_format.specs.Pieces.{NodeIs}
use Rattle.plan_check.proofs.Accepted.{clean, start_below}
use Rattle.plan_layout.specs.Fields.{Fields, Laid}
use Rattle.plan_layout.proofs.Exact.{laid_byte}
use Rattle.plan_layout.proofs.Names.{four, same_four}
use Rattle.plan_layout.proofs.Starts.{start_bytes}
use Rattle.plan_parts.specs.Read.{fields_of}
use Rattle.plan_merge.specs.Sentences.{shifted_parent, NodeShifted, shifted_conditions, shifted_orders, IsMerged}
use Rattle.plan_merge.specs.Model.{merged_sizes, merged_fields}
use Rattle.plan_merge.proofs.Fields.{Contains, contains_first, contains_second, root_kind, root_parent}
use Rattle.plan_merge.proofs.Fields.{root_minutes, hull_name_lem}
use Rattle.plan_merge.proofs.Valid.{NodeSource, new_root, of_first, of_second, source_of, Half, first_half, second_half}
use Rattle.plan_merge.proofs.Valid.{half_of}
use Rattle.plan_merge.proofs.Counts.{condition_count, order_count_lem, merged_long}

-- ---- element x of a list of n pairs and then more
module _ (f : ℕ → ℕ × ℕ) (n : ℕ) (ys : List (ℕ × ℕ)) where
  abbrev xs : List (ℕ × ℕ)
  xs = each (λ i. f i ∷ []) 0 n

  one_of : (x : ℕ) → x < n → get_or xs x (0, 0) ≡ f x
  one_of x l = each_at (λ i. f i ∷ []) 1 (λ i. refl) 0 n x 0 x x (0, 0) l (omega arith) (omega arith) (omega arith)

  long : length xs ≡ n
  long = each_long (λ i. f i ∷ []) 1 (λ i. refl) 0 n ∙ omega arith

  early : (x : ℕ) → x < n → get_or (xs ++ ys) x (0, 0) ≡ f x
  early x l = get_or-append xs ys (0, 0) x (omega (arith, long)) ∙ one_of x l

  late : (x j : ℕ) → x ≡ j + n → get_or (xs ++ ys) x (0, 0) ≡ get_or ys j (0, 0)
  late x j e = let q : x ≡ length xs + j = omega (arith, long) in rw q (get_or-append-add xs ys j (0, 0))

module _ (b c m : List ℕ) (h : IsMerged b c m) where
  -- ---- nodes
  abbrev NodeLaid : ℕ → Type 0
  NodeLaid x = NodeIs m x (four (merged_fields b c).name x) ((merged_fields b c).parent x) ((merged_fields b c).kind x)
      ((merged_fields b c).minutes x)

  root_laid : NodeLaid 0
  root_laid = let r = h.root in record {
    its_name = r.its_name ∙ rw (
      hull_name_lem b c 0 (omega arith),
      hull_name_lem b c 1 (omega arith),
      hull_name_lem b c 2 (omega arith),
      hull_name_lem b c 3 (omega arith),
    );
    its_parent = r.its_parent ∙ sym (root_parent b c);
    its_kind = r.its_kind ∙ sym (root_kind b c);
    its_minutes = r.its_minutes ∙ sym (root_minutes b c);
  }

  module _ (d : List ℕ) (s i j : ℕ) (w : Contains (merged_fields b c) (fields_of d) s i j)
      (some_node : 0 < node_count d) where
    parent_laid : (n : ℕ) → n < node_count d → shifted_parent s d n ≡ (merged_fields b c).parent (s + n)
    parent_laid zero l = sym (w.root (s + 0) (omega arith) some_node)
    parent_laid (suc n) l = sym (w.parent (s + suc n) (suc n) (omega arith) (omega arith) l)

    name_laid : (n : ℕ) → n < node_count d → name_of d n ≡ four (merged_fields b c).name (s + n)
    unfolding name_of
    name_laid n l = rw (
      w.name (4 * (s + n)) (4 * n) (omega arith) (omega arith),
      w.name (4 * (s + n) + 1) (4 * n + 1) (omega arith) (omega arith),
      w.name (4 * (s + n) + 2) (4 * n + 2) (omega arith) (omega arith),
      w.name (4 * (s + n) + 3) (4 * n + 3) (omega arith) (omega arith),
    )

    node_laid : (x n : ℕ) → x ≡ n + s → n < node_count d → NodeShifted s d m n → NodeLaid x
    node_laid x n e l k = let q : x ≡ s + n = omega arith in rw q (record {
      its_name = k.its_name ∙ name_laid n l;
      its_parent = k.its_parent ∙ parent_laid n l;
      its_kind = k.its_kind ∙ sym (w.kind (s + n) n (omega arith) l);
      its_minutes = k.its_minutes ∙ sym (w.minutes (s + n) n (omega arith) l);
    })

  each_node : (x : ℕ) → NodeSource (node_count b) (node_count c) x → NodeLaid x
  each_node x (new_root e) = rw e root_laid
  each_node x (of_first i e l) = node_laid b 1 0 0 (contains_first b c) (omega arith) x i e l (h.first_nodes i l)
  each_node x (of_second i e l) = node_laid c (1 + node_count b) _ _ (contains_second b c) (omega arith) x i e l
      (h.second_nodes i l)

  node_in : (x : ℕ) → x < (merged_sizes b c).nodes → NodeLaid x
  node_in x l = each_node x (source_of (node_count b) (node_count c) x l)

  name_in_lem : (k : ℕ) → k < 4 * (merged_sizes b c).nodes → name_char m k ≡ (merged_fields b c).name k
  unfolding name_of
  name_in_lem k l = same_four (name_char m) (merged_fields b c).name k (node_in (k / 4) (omega arith)).its_name

  -- ---- conditions and orders
  condition_in : (x : ℕ) → x < (merged_sizes b c).conditions
      → ◌≡◌ {A = ℕ × ℕ} (cond_node m x, cond_value m x) ((merged_fields b c).task x, (merged_fields b c).value x)
  condition_in x l =
      sym (one_of (λ i. (cond_node m i, cond_value m i)) (cond_count m) [] x (omega (arith, condition_count b c m h)))
      ∙ ap (λ (ps : List (ℕ × ℕ)). get_or ps x (0, 0)) h.conditions
      ∙ at (half_of (cond_count b) (cond_count c) x (omega arith))
    where
      at : Half (cond_count b) (cond_count c) x
          → get_or (shifted_conditions 1 b ++ shifted_conditions (1 + node_count b) c) x (0, 0)
          ≡ ((merged_fields b c).task x, (merged_fields b c).value x)
      at (first_half n) = let w = contains_first b c in
          early (λ i. (cond_node b i + 1, cond_value b i)) (cond_count b) _ x n
          ∙ rw (w.task x x (omega arith) n, w.value x x (omega arith) n)
      at (second_half j e n) = let w = contains_second b c in
          late (λ i. (cond_node b i + 1, cond_value b i)) (cond_count b) _ x j e
          ∙ one_of (λ i. (cond_node c i + (1 + node_count b), cond_value c i)) (cond_count c) [] j n
          ∙ rw (w.task x j e n, w.value x j e n)

  order_in : (x : ℕ) → x < (merged_sizes b c).orders
      → ◌≡◌ {A = ℕ × ℕ} (earlier_of m x, later_of m x) ((merged_fields b c).earlier x, (merged_fields b c).later x)
  order_in x l =
      sym (one_of (λ j. (earlier_of m j, later_of m j)) (order_count m) [] x (omega (arith, order_count_lem b c m h)))
      ∙ ap (λ (ps : List (ℕ × ℕ)). get_or ps x (0, 0)) h.orders
      ∙ at (half_of (order_count b) (order_count c) x (omega arith))
    where
      at : Half (order_count b) (order_count c) x
          → get_or (shifted_orders 1 b ++ shifted_orders (1 + node_count b) c) x (0, 0)
          ≡ ((merged_fields b c).earlier x, (merged_fields b c).later x)
      at (first_half n) = let w = contains_first b c in
          early (λ j. (earlier_of b j + 1, later_of b j + 1)) (order_count b) _ x n
          ∙ rw (w.earlier x x (omega arith) n, w.later x x (omega arith) n)
      at (second_half j e n) = let w = contains_second b c in
          late (λ j. (earlier_of b j + 1, later_of b j + 1)) (order_count b) _ x j e
          ∙ one_of (λ j. (earlier_of c j + (1 + node_count b), later_of c j + (1 + node_count b))) (order_count c) []
          j n
          ∙ rw (w.earlier x j e n, w.later x j e n)

  -- ---- all but the bytes of the start flags, which x has
  abbrev started_as : List ℕ → Fields
  started_as x = record {
    sizes = merged_sizes b c;
    start = λ k. get_or x (8 + k) 0;
    name = (merged_fields b c).name;
    parent = (merged_fields b c).parent;
    kind = (merged_fields b c).kind;
    minutes = (merged_fields b c).minutes;
    task = (merged_fields b c).task;
    value = (merged_fields b c).value;
    earlier = (merged_fields b c).earlier;
    later = (merged_fields b c).later;
  }

  merged_fields_lem : (x : List ℕ) → ((k : ℕ) → k < 8 → get_or m (8 + k) 0 ≡ get_or x (8 + k) 0) → Laid m (started_as x)
  merged_fields_lem x e = record {
    long = merged_long b c m h;
    nodes = omega (arith, h.nodes);
    conditions = omega (arith, condition_count b c m h);
    orders = omega (arith, order_count_lem b c m h);
    flags = omega (arith, h.flags);
    start = e;
    name = name_in_lem;
    parent = λ n l. (node_in n l).its_parent;
    kind = λ n l. (node_in n l).its_kind;
    minutes = λ n l. (node_in n l).its_minutes;
    task = λ i l. ap (λ (p : ℕ × ℕ). p.0) (condition_in i l);
    value = λ i l. ap (λ (p : ℕ × ℕ). p.1) (condition_in i l);
    earlier = λ j l. ap (λ (p : ℕ × ℕ). p.0) (order_in j l);
    later = λ j l. ap (λ (p : ℕ × ℕ). p.1) (order_in j l);
  }

  -- past the flags of both plans none is set
  clear_past : (f : ℕ) → f < 64 → flag_count b ≤ f → flag_count c ≤ f → start_flag m f ≡ false
  clear_past f l x y =
      not_passed (start_flag m f) (λ s. omega (arith, h.flags, start_below m (clean m h.passes) f l s))

-- two that are the merged plan start alike
same_starts : (b c m n : List ℕ) → IsMerged b c m → IsMerged b c n → (f : ℕ) → f < 64 → start_flag m f ≡ start_flag n f
same_starts b c m n h k f l =
    by_cases (dec_lt f (flag_count b)) (λ (x : f < flag_count b). h.starts_first f x ∙ sym (k.starts_first f x))
    (λ x. by_cases (dec_lt f (flag_count c))
    (λ (y : f < flag_count c). h.starts_second f y ∙ sym (k.starts_second f y))
    (λ y. clear_past b c m h f l (omega arith) (omega arith)
    ∙ sym (clear_past b c n k f l (omega arith) (omega arith))))

pub merged_only : (b c m n : List ℕ) → Bytes m → Bytes n → IsMerged b c m → IsMerged b c n → m ≡ n
merged_only b c m n x y h k =
    let e = merged_long b c m h in
    let f = started_as b c m h n in
    ext_get_or 0 m n (e ∙ sym (merged_long b c n k)) (λ i l.
    laid_byte f m (merged_fields_lem b c m h n (start_bytes m n x y (same_starts b c m n h k))) x i (omega arith)
    ∙ sym (laid_byte f n (merged_fields_lem b c n k n (λ j u. refl)) y i (omega arith)))
