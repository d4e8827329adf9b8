-- The fields of a merged plan are those of the new root, of the first plan and of the second. Assumes nothing.
use mathlib.Core.Path.{◌≡◌, refl, ◌∙◌}
use mathlib.Core.Bool.{cond}
use mathlib.Core.List.{List}
use Prim.Native.Nat.{ℕ, ◌+◌, ◌*◌, ◌<◌, max}
use native.Mathlib.Omega.{arith}
use lib.Dec.{leb}
use lib.ListN.{get_or}
use borrow.Author.Tests.{ne_eqb, le-leb}
use Rattle.plan_format.specs.Format.{node_count, cond_count, order_count, flag_count, parent_of}
use Rattle.plan_layout.specs.Fields.{Fields}
use Rattle.plan_parts.specs.Read.{fields_of}
use Rattle.plan_parts.specs.Joined.{in_turn, parent_under}
use Rattle.plan_parts.proofs.Joined.{turn_first, turn_second}
use Rattle.plan_merge.specs.Sentences.{hull_name}
use Rattle.plan_merge.specs.Model.{merged_fields}

-- m has the nodes of f from node s on, its conditions from c on and its orders from k on, node numbers shifted by s;
-- the root of f stands under node 0
pub record Contains (m f : Fields) (s c k : ℕ) : Type 0 where
  pub name : (x i : ℕ) → x ≡ i + 4 * s → i < 4 * f.sizes.nodes → m.name x ≡ f.name i
  pub kind : (x i : ℕ) → x ≡ i + s → i < f.sizes.nodes → m.kind x ≡ f.kind i
  pub minutes : (x i : ℕ) → x ≡ i + s → i < f.sizes.nodes → m.minutes x ≡ f.minutes i
  pub root : (x : ℕ) → x ≡ 0 + s → 0 < f.sizes.nodes → m.parent x ≡ 0
  pub parent : (x i : ℕ) → x ≡ i + s → 0 < i → i < f.sizes.nodes → m.parent x ≡ f.parent i + s
  pub task : (x i : ℕ) → x ≡ i + c → i < f.sizes.conditions → m.task x ≡ f.task i + s
  pub value : (x i : ℕ) → x ≡ i + c → i < f.sizes.conditions → m.value x ≡ f.value i
  pub earlier : (x j : ℕ) → x ≡ j + k → j < f.sizes.orders → m.earlier x ≡ f.earlier j + s
  pub later : (x j : ℕ) → x ≡ j + k → j < f.sizes.orders → m.later x ≡ f.later j + s

-- ---- three lists one after another: u of the root, n of the first, and those of the second
module _ (u n : ℕ) (r f g : ℕ → ℕ) where
  to_first : (x i : ℕ) → x ≡ i + u → i < n → in_turn u r (in_turn n f g) x ≡ f i
  to_first x i e l = turn_second u x i r (in_turn n f g) e ∙ turn_first n i f g l

  to_second : (x i : ℕ) → x ≡ i + (u + n) → in_turn u r (in_turn n f g) x ≡ g i
  to_second x i e = turn_second u x (i + n) r (in_turn n f g) (omega arith) ∙ turn_second n (i + n) i f g refl

up : (s i : ℕ) (parent : ℕ → ℕ) → 0 < i → parent_under s parent i ≡ parent i + s
unfolding parent_under
up s i parent l = rw (ne_eqb i 0 (λ z. omega arith))

up_root : (s : ℕ) (parent : ℕ → ℕ) → parent_under s parent 0 ≡ 0
unfolding parent_under
up_root s parent = refl

module _ (b c : List ℕ) where
  pub contains_first : Contains (merged_fields b c) (fields_of b) 1 0 0
  contains_first = record {
    name = λ x i e l. to_first _ _ _ _ _ x i e l;
    kind = λ x i e l. to_first _ _ _ _ _ x i e l;
    minutes = λ x i e l. to_first _ _ _ _ _ x i e l;
    root = λ x e l. to_first _ _ _ _ _ x 0 e l ∙ up_root 1 (parent_of b);
    parent = λ x i e z l. to_first _ _ _ _ _ x i e l ∙ up 1 i (parent_of b) z;
    task = λ x i e l. to_first _ _ _ _ _ x i e l;
    value = λ x i e l. to_first _ _ _ _ _ x i e l;
    earlier = λ x i e l. to_first _ _ _ _ _ x i e l;
    later = λ x i e l. to_first _ _ _ _ _ x i e l;
  }

  pub contains_second : Contains (merged_fields b c) (fields_of c) (1 + node_count b) (cond_count b) (order_count b)
  contains_second = record {
    name = λ x i e l. to_second _ _ _ _ _ x i (omega arith);
    kind = λ x i e l. to_second _ _ _ _ _ x i (omega arith);
    minutes = λ x i e l. to_second _ _ _ _ _ x i (omega arith);
    root = λ x e l. to_second _ _ _ _ _ x 0 (omega arith) ∙ up_root (1 + node_count b) (parent_of c);
    parent = λ x i e z l. to_second _ _ _ _ _ x i (omega arith) ∙ up (1 + node_count b) i (parent_of c) z;
    task = λ x i e l. to_second _ _ _ _ _ x i (omega arith);
    value = λ x i e l. to_second _ _ _ _ _ x i (omega arith);
    earlier = λ x i e l. to_second _ _ _ _ _ x i (omega arith);
    later = λ x i e l. to_second _ _ _ _ _ x i (omega arith);
  }

  -- the start flags of the plan with more flags
  pub start_of : (k : ℕ) → (merged_fields b c).start k
      ≡ cond (leb (flag_count b) (flag_count c)) (get_or c (8 + k) 0) (get_or b (8 + k) 0)
  start_of k = rw (le-leb 0 (max (flag_count b) (flag_count c)) (omega arith))

  -- the new root
  pub root_kind : (merged_fields b c).kind 0 ≡ 1
  root_kind = turn_first 1 0 _ _ (omega arith)

  pub root_parent : (merged_fields b c).parent 0 ≡ 255
  root_parent = turn_first 1 0 _ _ (omega arith)

  pub root_minutes : (merged_fields b c).minutes 0 ≡ 0
  root_minutes = turn_first 1 0 _ _ (omega arith)

  pub hull_name_lem : (k : ℕ) → k < 4 → (merged_fields b c).name k ≡ get_or hull_name k 0
  hull_name_lem k l = turn_first 4 k _ _ l
