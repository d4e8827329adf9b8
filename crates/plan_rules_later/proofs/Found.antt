-- The passes find causes 8, 11 and 12. Assumes nothing.
use mathlib.Core.Path.{◌≡◌, refl, ap, ◌∙◌, sym}
use mathlib.Core.Logic.{by_cases}
use mathlib.Core.Bool.{Bool, true, false, not, ◌&&◌, and-true, false≢true}
use mathlib.Core.List.{List}
use Prim.Native.Nat.{ℕ, ◌+◌, ◌<◌}
use native.Mathlib.Decide.{ℕ_discrete}
use native.Mathlib.Omega.{arith}
use lib.Dec.{eqb}
use borrow.Author.Tests.{eq-eqb, eqb-true}
use Rattle.plan_codes.proofs.Values.{value_parts}
use Rattle.plan_codes.specs.Values.{flag_of, sign_of, place_of}
use Rattle.plan_format.specs.Format.{node_count, cond_count, parent_of, cond_node, cond_value, is_group}
use Rattle.plan_format.specs.Whole.{Whole}
use Rattle.plan_rules.specs.Rules.{cause7, childless, cause8, cause10, both_signs, cause11, post_of, no_post, cause12}
use Rattle.std.specs.Prelude.{is_some}
use Rattle.std.specs.Bool.{then_some}
use Rattle.runs.specs.Searches.{any_below}
use Rattle.base.proofs.Booleans.{same, and_both, and_of}
use Rattle.runs.proofs.Searches.{found_at, some_yes, some_same}
use Rattle.plan_rules_later.specs.declared.Ask.{Ask}
use Rattle.plan_rules_later.specs.declared.Ask.TheVariants.{Needs, Bars}
use Rattle.plan_rules_later.specs.Passes.{child_step, slot_of, sign_step, post_step, written, refused_by}
use Rattle.plan_rules_later.specs.Passes.{answers, judged, InOrder}
use Rattle.plan_rules.proofs.Causes.{root_parent, parent_group, both_signs_lem, both_signs_of, PostOf, post_of_lem}
use Rattle.plan_rules.proofs.Rising.{nodes_rise, comes_first}

-- ---- tests of two conditions
-- place and flag are told from the slot
slot_parts : (v w : ℕ) → slot_of w ≡ slot_of v → (place_of w ≡ place_of v) × (flag_of w ≡ flag_of v)
unfolding slot_of place_of flag_of
slot_parts v w e = (omega arith, omega arith)

slot_of_lem : (v w : ℕ) → place_of w ≡ place_of v → flag_of w ≡ flag_of v → slot_of w ≡ slot_of v
unfolding slot_of
slot_of_lem v w p q = rw (p, q)

-- in one slot the condition with sign set has the higher value
sign_rises : (v w : ℕ) → slot_of w ≡ slot_of v → sign_of v ≡ 0 → sign_of w ≡ 1 → v < w
sign_rises v w e p q = let s = slot_parts v w e in omega (arith, value_parts v, value_parts w)

-- ---- what is done under a test
asks_if : (g : Bool) (a : Ask) → is_some (then_some g a) ≡ true → g ≡ true
asks_if true a h = refl
asks_if false a h = absurd (false≢true h)

written_if : (g : Bool) (j k : ℕ) → written (then_some g j) k ≡ true → (g ≡ true) × (j ≡ k)
written_if true j k h = (refl, eqb-true j k h)
written_if false j k h = absurd (false≢true h)

needed : (g : Bool) (k : ℕ) (x : Bool) → refused_by (then_some g (Needs k)) x ≡ g && not x
needed true k x = refl
needed false k x = refl

barred : (g : Bool) (k : ℕ) (x : Bool) → refused_by (then_some g (Bars k)) x ≡ g && x
barred true k x = refl
barred false k x = refl

only_if : (g x y : Bool) → (g ≡ true → x ≡ y) → (g && not x) ≡ (g && not y)
only_if true x y h = ap not (h refl)
only_if false x y h = refl

module _ (b : List ℕ) (i j : ℕ) where
  record SignAnswered : Type 0 where
    pub node : cond_node b j ≡ cond_node b i
    pub slot : slot_of (cond_value b j) ≡ slot_of (cond_value b i)
    pub set : sign_of (cond_value b j) ≡ 1

  module _ (clear : eqb (sign_of (cond_value b i)) 0 ≡ true) where
    sign_answered : answers (sign_step b) i j ≡ true → SignAnswered
    unfolding sign_step
    sign_answered h =
        let w = and_both (written (then_some (eqb (sign_of (cond_value b j)) 1) (slot_of (cond_value b j)))
        (slot_of (cond_value b i))) (eqb (cond_node b j + 1) (cond_node b i + 1)) (rw clear at h) in
        let v = written_if (eqb (sign_of (cond_value b j)) 1) _ _ w.0 in
        record {
          node = omega (arith, eqb-true (cond_node b j + 1) (cond_node b i + 1) w.1);
          slot = v.1;
          set = eqb-true _ _ v.0;
        }

    sign_answer : SignAnswered → answers (sign_step b) i j ≡ true
    unfolding sign_step
    sign_answer r = simp (
      clear,
      eq-eqb _ _ r.set,
      eq-eqb _ _ r.slot,
      r.node,
      eq-eqb (cond_node b i + 1) (cond_node b i + 1) refl,
    )

  module _ (inc : eqb (place_of (cond_value b i)) 1 ≡ true) where
    post_answered : answers (post_step b) i j ≡ true → PostOf b i j
    unfolding post_step
    post_answered h =
        let w = and_both (written (then_some (eqb (place_of (cond_value b j)) 2) (flag_of (cond_value b j)))
        (flag_of (cond_value b i))) (eqb (cond_node b j + 1) (cond_node b i + 1)) (rw inc at h) in
        let v = written_if (eqb (place_of (cond_value b j)) 2) _ _ w.0 in
        record {
          node = omega (arith, eqb-true (cond_node b j + 1) (cond_node b i + 1) w.1);
          flag = v.1;
          post = eqb-true _ _ v.0;
        }

    post_same : answers (post_step b) i j ≡ post_of b i j
    unfolding post_step post_of
    post_same =
        same (answers (post_step b) i j) (post_of b i j)
        (λ y. let r = post_answered y in simp (eq-eqb _ _ r.node, eq-eqb _ _ r.flag, eq-eqb _ _ r.post))
        (λ y. let r = post_of_lem b i j y in
        simp (inc, eq-eqb _ _ r.post, eq-eqb _ _ r.flag, r.node, eq-eqb (cond_node b i + 1) (cond_node b i + 1) refl))

-- a clear condition is barred exactly if some condition has the other sign
both_found : (b : List ℕ) (n i : ℕ) → judged n (sign_step b) i ≡ any_below n (both_signs b i)
unfolding sign_step
both_found b n i =
    let clear = eqb (sign_of (cond_value b i)) 0 in
    barred clear (slot_of (cond_value b i)) (any_below n (answers (sign_step b) i))
    ∙ same (clear && any_below n (answers (sign_step b) i)) (any_below n (both_signs b i))
    (λ y.
    let w = and_both clear (any_below n (answers (sign_step b) i)) y in
    let f = found_at n (answers (sign_step b) i) w.1 in
    let r = sign_answered b i f.0 w.0 f.2 in
    let p = slot_parts (cond_value b i) (cond_value b f.0) r.slot in
    some_yes n (both_signs b i) f.0 f.1
    (both_signs_of b i f.0 (record
    { node = r.node; place = p.0; flag = p.1; clear = eqb-true _ _ w.0; set = r.set })))
    (λ y.
    let f = found_at n (both_signs b i) y in
    let r = both_signs_lem b i f.0 f.2 in
    let e : clear ≡ true = eq-eqb _ _ r.clear in
    and_of clear (any_below n (answers (sign_step b) i)) e
    (some_yes n (answers (sign_step b) i) f.0 f.1
    (sign_answer b i f.0 e (record
    { node = r.node; slot = slot_of_lem (cond_value b i) (cond_value b f.0) r.place r.flag; set = r.set }))))

-- ---- cause 8
module _ (b : List ℕ) (fits : Whole b) (parents : cause7 b ≡ false) where
  parent_lower : (n : ℕ) → n < node_count b → parent_of b n < node_count b → parent_of b n < n
  parent_lower n l m =
      by_cases (ℕ_discrete n 0) (λ (e : n ≡ 0). absurd
      (omega (arith, root_parent b fits parents, ap (parent_of b) e, fits.limits.nodes)))
      (λ e. (parent_group b fits parents n (omega arith) l).0)

  -- a node answers a group that is its parent
  child_same : (i j : ℕ) → is_group b i ≡ true → answers (child_step b) i j ≡ eqb (parent_of b j) i
  unfolding child_step
  child_same i j g = rw g (and-true (eqb (parent_of b j) i))

  pub children_in_order : InOrder (node_count b) (child_step b)
  unfolding child_step
  children_in_order = record {
    positive = λ i l. omega arith;
    rises = λ i j l m. omega arith;
    later = λ i j l m q a.
        let e = eqb-true (parent_of b j) i (sym (child_same i j (asks_if (is_group b i) (Needs i) q)) ∙ a) in
        omega (arith, parent_lower j m (omega arith));
  }

  pub children : any_below (node_count b) (judged (node_count b) (child_step b)) ≡ cause8 b
  unfolding cause8 childless child_step
  children = some_same (node_count b) (judged (node_count b) (child_step b)) (childless b) (λ i l.
      needed (is_group b i) i (any_below (node_count b) (answers (child_step b) i))
      ∙ only_if (is_group b i) _ _ (λ g.
      some_same (node_count b) (answers (child_step b) i) (λ n. eqb (parent_of b n) i) (λ j k. child_same i j g)))

-- ---- causes 11 and 12
module _ (b : List ℕ) (rising : cause10 b ≡ false) where
  before : (i j : ℕ) → i < cond_count b → j < cond_count b → cond_node b j ≡ cond_node b i
      → cond_value b i < cond_value b j
      → i < j
  unfolding cause10
  before i j l m e q = comes_first (cond_node b) (cond_value b) (cond_count b) rising i j l m (sym e) q

  pub signs_in_order : InOrder (cond_count b) (sign_step b)
  unfolding sign_step
  signs_in_order = record {
    positive = λ i l. omega arith;
    rises = λ i j l m. omega (arith, nodes_rise b rising i j l m);
    later = λ i j l m q a.
        let clear = asks_if (eqb (sign_of (cond_value b i)) 0) (Bars (slot_of (cond_value b i))) q in
        let w = sign_answered b i j clear a in
        before i j l m w.node (sign_rises (cond_value b i) (cond_value b j) w.slot (eqb-true _ _ clear) w.set);
  }

  pub signs : any_below (cond_count b) (judged (cond_count b) (sign_step b)) ≡ cause11 b
  unfolding cause11
  signs = some_same (cond_count b) (judged (cond_count b) (sign_step b))
      (λ i. any_below (cond_count b) (both_signs b i)) (λ i l. both_found b (cond_count b) i)

  pub posts_in_order : InOrder (cond_count b) (post_step b)
  unfolding post_step place_of
  posts_in_order = record {
    positive = λ i l. omega arith;
    rises = λ i j l m. omega (arith, nodes_rise b rising i j l m);
    later = λ i j l m q a.
        let inc = asks_if (eqb (place_of (cond_value b i)) 1) (Needs (flag_of (cond_value b i))) q in
        let w = post_answered b i j inc a in
        let p = eqb-true (place_of (cond_value b i)) 1 inc in
        before i j l m w.node (omega (arith, w.post));
  }

  pub posts : any_below (cond_count b) (judged (cond_count b) (post_step b)) ≡ cause12 b
  unfolding cause12 no_post post_step
  posts = some_same (cond_count b) (judged (cond_count b) (post_step b)) (no_post b) (λ i l.
      needed (eqb (place_of (cond_value b i)) 1) (flag_of (cond_value b i))
      (any_below (cond_count b) (answers (post_step b) i))
      ∙ only_if (eqb (place_of (cond_value b i)) 1) _ _ (λ inc.
      some_same (cond_count b) (answers (post_step b) i) (post_of b i) (λ j k. post_same b i j inc)))
