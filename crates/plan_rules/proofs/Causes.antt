-- What it means that a cause does not apply, and what the tests of two conditions say. Assumes nothing.
use mathlib.Core.Path.{◌≡◌}
use mathlib.Core.Logic.{⊎_elim}
use mathlib.Core.Bool.{true, false, not, ◌&&◌, ◌||◌}
use mathlib.Core.List.{List}
use Prim.Native.Nat.{ℕ, ◌*◌, ◌<◌, ◌≤◌}
use native.Mathlib.Omega.{arith}
use lib.ListN.{length}
use lib.Dec.{eqb, ltb, leb}
use borrow.Author.Tests.{eq-eqb, ne_eqb, eqb-true, leb-true, ltb-true, ltb-false, not-false}
use Rattle.plan_codes.specs.Names.{name_allowed}
use Rattle.plan_codes.specs.Values.{flag_of, sign_of, place_of, value_bad}
use Rattle.plan_format.specs.Format.{node_count, cond_count, order_count, flag_count, whole_length, name_char}
use Rattle.plan_format.specs.Format.{parent_of}
use Rattle.plan_format.specs.Format.{kind_of, cond_node, cond_value, is_kind, is_group}
use Rattle.plan_format.specs.Whole.{Limits, Whole}
use Rattle.plan_rules.specs.Rules.{cause2, bad_char, cause5, bad_parent, cause7, bad_condition, cause9, both_signs}
use Rattle.plan_rules.specs.Rules.{post_of}
use Rattle.base.proofs.Booleans.{or_split, or_none, and_both, and_three}
use Rattle.runs.proofs.Searches.{none_at}

-- ---- sizes
pub limits : (b : List ℕ) → 16 ≤ length b → cause2 b ≡ false → Limits b
unfolding cause2
limits b l h =
    let w = or_none _ (ltb (flag_count b) 1 || ltb 64 (flag_count b)) h in
    let n = or_none (ltb (node_count b) 1 || ltb 128 (node_count b))
    (ltb 1024 (cond_count b) || ltb 512 (order_count b))
    w.0 in
    let n0 = or_none (ltb (node_count b) 1) (ltb 128 (node_count b)) n.0 in
    let n1 = or_none (ltb 1024 (cond_count b)) (ltb 512 (order_count b)) n.1 in
    let v = or_none (ltb (flag_count b) 1) (ltb 64 (flag_count b)) w.1 in
    record {
      long = l;
      some_node = ltb-false (node_count b) 1 n0.0;
      nodes = ltb-false 128 (node_count b) n0.1;
      conditions = ltb-false 1024 (cond_count b) n1.0;
      orders = ltb-false 512 (order_count b) n1.1;
      some_flag = ltb-false (flag_count b) 1 v.0;
      flags = ltb-false 64 (flag_count b) v.1;
    }

pub whole : (b : List ℕ) → Limits b → length b ≡ whole_length b → Whole b
unfolding whole_length
whole b l e = record { limits = l; whole = e }

-- ---- names
-- no character is above "Z"
pub name_limit : (b : List ℕ) → cause5 b ≡ false → (k : ℕ) → k < 4 * node_count b → name_char b k ≤ 90
unfolding cause5 bad_char name_allowed
name_limit b h k l =
    let c = name_char b k in
    let digit : (leb 48 c && leb c 57) ≡ true → c ≤ 90 =
    λ e. omega (arith, leb-true c 57 (and_both (leb 48 c) (leb c 57) e).1) in
    let letter : (leb 65 c && leb c 90) ≡ true → c ≤ 90 = λ e. leb-true c 90 (and_both (leb 65 c) (leb c 90) e).1 in
    let hyphen : eqb c 45 ≡ true → c ≤ 90 = λ e. omega (arith, eqb-true c 45 e) in
    let allowed = not-false _ (none_at (4 * node_count b) (bad_char b) h k l) in
    ⊎_elim digit (λ o. ⊎_elim letter hyphen (or_split (leb 65 c && leb c 90) (eqb c 45) o))
    (or_split (leb 48 c && leb c 57) ((leb 65 c && leb c 90) || eqb c 45) allowed)

-- ---- parents and conditions
-- every condition has a value up to 383 and a node
pub record Usable (b : List ℕ) : Type 0 where
  pub value : (i : ℕ) → i < cond_count b → cond_value b i ≤ 383
  pub node : (i : ℕ) → i < cond_count b → cond_node b i < 128

module _ (b : List ℕ) (fits : Whole b) where
  module _ (parents : cause7 b ≡ false) where
    pub root_parent : parent_of b 0 ≡ 255
    unfolding cause7 bad_parent
    root_parent = eqb-true (parent_of b 0) 255
        (not-false _ (none_at (node_count b) (bad_parent b) parents 0 fits.limits.some_node))

    pub parent_group : (n : ℕ) → 0 < n → n < node_count b → (parent_of b n < n) × (is_group b (parent_of b n) ≡ true)
    unfolding cause7 bad_parent
    parent_group n p l =
        let e = rw (ne_eqb n 0 (λ z. omega arith)) at (none_at (node_count b) (bad_parent b) parents n l) in
        let w = and_both (ltb (parent_of b n) n) (is_group b (parent_of b n)) (not-false _ e) in
        (ltb-true (parent_of b n) n w.0, w.1)

  module _ (conditions : cause9 b ≡ false) where
    pub condition_fits : (i : ℕ) → i < cond_count b
        → (is_kind b (cond_node b i) 0 ≡ true) × (value_bad (cond_value b i) (flag_count b) ≡ false)
    unfolding cause9 bad_condition
    condition_fits i l =
        let w = or_none (not (is_kind b (cond_node b i) 0)) (value_bad (cond_value b i) (flag_count b))
        (none_at (cond_count b) (bad_condition b) conditions i l) in
        (not-false _ w.0, w.1)

    pub usable : Usable b
    unfolding is_kind value_bad
    usable =
        record {
          value = λ i l. ltb-false 383 (cond_value b i)
              (or_none (ltb 383 (cond_value b i)) (leb (flag_count b) (flag_of (cond_value b i)))
              (condition_fits i l).1).0;
          node = λ i l. omega (
            arith,
            ltb-true (cond_node b i) (node_count b)
                (and_both (ltb (cond_node b i) (node_count b)) (eqb (kind_of b (cond_node b i)) 0)
                (condition_fits i l).0).0,
            fits.limits.nodes,
          );
        }

-- ---- two conditions
module _ (b : List ℕ) (i j : ℕ) where
  pub record BothSigns : Type 0 where
    pub node : cond_node b j ≡ cond_node b i
    pub place : place_of (cond_value b j) ≡ place_of (cond_value b i)
    pub flag : flag_of (cond_value b j) ≡ flag_of (cond_value b i)
    pub clear : sign_of (cond_value b i) ≡ 0
    pub set : sign_of (cond_value b j) ≡ 1

  pub both_signs_lem : both_signs b i j ≡ true → BothSigns
  unfolding both_signs
  both_signs_lem h =
      let w = and_both _ (eqb (sign_of (cond_value b i)) 0 && eqb (sign_of (cond_value b j)) 1) h in
      let x = and_three (eqb (cond_node b j) (cond_node b i))
      (eqb (place_of (cond_value b j)) (place_of (cond_value b i)))
      (eqb (flag_of (cond_value b j)) (flag_of (cond_value b i))) w.0 in
      let y = and_both (eqb (sign_of (cond_value b i)) 0) (eqb (sign_of (cond_value b j)) 1) w.1 in
      record {
        node = eqb-true _ _ x.0;
        place = eqb-true _ _ x.1;
        flag = eqb-true _ _ x.2;
        clear = eqb-true _ _ y.0;
        set = eqb-true _ _ y.1;
      }

  pub both_signs_of : BothSigns → both_signs b i j ≡ true
  unfolding both_signs
  both_signs_of r = simp (
    eq-eqb _ _ r.node,
    eq-eqb _ _ r.place,
    eq-eqb _ _ r.flag,
    eq-eqb _ _ r.clear,
    eq-eqb _ _ r.set,
  )

  pub record PostOf : Type 0 where
    pub node : cond_node b j ≡ cond_node b i
    pub flag : flag_of (cond_value b j) ≡ flag_of (cond_value b i)
    pub post : place_of (cond_value b j) ≡ 2

  pub post_of_lem : post_of b i j ≡ true → PostOf
  unfolding post_of
  post_of_lem h =
      let w = and_three (eqb (cond_node b j) (cond_node b i))
      (eqb (flag_of (cond_value b j)) (flag_of (cond_value b i)))
      (eqb (place_of (cond_value b j)) 2) h in
      record { node = eqb-true _ _ w.0; flag = eqb-true _ _ w.1; post = eqb-true _ _ w.2 }
