-- The plan that accepted bytes mean: its conditions and orders are those of the bytes, and it is `Accepted`. Assumes
-- nothing.
use mathlib.Core.Path.{◌≡◌, refl, ap, ◌∙◌, sym}
use mathlib.Core.Logic.{⊎_elim, by_cases, ◌≢◌}
use mathlib.Core.Bool.{Bool, true, false, cond, not, ◌&&◌, ◌||◌, true≢false, or-true}
use mathlib.Core.List.{List}
use mathlib.Core.Option.{some, none}
use Prim.Native.Nat.{ℕ, zero, suc, ◌<◌, ◌≤◌}
use native.Mathlib.Decide.{ℕ_discrete}
use native.Mathlib.Omega.{arith}
use lib.Dec.{T, eqb, ltb, leb, ltb→lt, lt→ltb}
use borrow.Author.Tests.{lt-ltb, eq-eqb, ne_eqb, eqb-true, ltb-true, ltb-false, leb-false, not-false}
use Rattle.plan_codes.proofs.Values.{value_parts}
use Rattle.plan_codes.specs.Values.{flag_of, sign_of, place_of, value_bad, value_of}
use Rattle.plan_format.specs.Format.{node_count, cond_count, order_count, flag_count, parent_of, kind_of, minutes_of}
use Rattle.plan_format.specs.Format.{cond_node, cond_value, earlier_of, later_of, is_kind, is_group}
use Rattle.plan_rules.specs.Rules.{refusal, bad_entry, cause6, childless, cause8, both_signs, cause11, no_post, post_of}
use Rattle.plan_rules.specs.Rules.{cause12, is_child, bad_pair, bad_order, cause13}
use Rattle.runs.specs.Searches.{any_below}
use Rattle.base.proofs.Booleans.{or_none, or_split, and_both, and_three, and_of, not_passed}
use Rattle.runs.proofs.Searches.{none_at, found_at, some_yes}
use Rattle.runs.specs.Plan.{task, all_of, any_of, optional, Place, inc, post, place_number, sign_number}
use Rattle.runs.specs.Numbers.{kind_number}
use Rattle.runs.specs.WellFormed.{Accepted, WellFormed}
use Rattle.runs.proofs.Reflect.{clash, true_T, T_true}
use Rattle.runs.proofs.Plan.Accepted.{accepted_well_formed, accepted_rank}
use Rattle.plan_check.specs.Meaning.{kind_at, condition_is, has_condition, sign_in, order_is, has_order, plan_of}
use Rattle.plan_check.specs.Meaning.{OrderPair}
use Rattle.plan_check.specs.Means.{ConditionPair, Means}
use Rattle.plan_rules.proofs.Causes.{condition_fits, parent_group, root_parent, both_signs_of, post_of_lem}
use Rattle.plan_check.proofs.Accepted.{Clean, clean}

-- ---- conditions
-- condition i is of task t, at place p, on flag f, with sign s
pub record Is (b : List ℕ) (p t f s i : ℕ) : Type 0 where
  pub below : i < cond_count b
  pub node : cond_node b i ≡ t
  pub place : place_of (cond_value b i) ≡ p
  pub flag : flag_of (cond_value b i) ≡ f
  pub sign : sign_of (cond_value b i) ≡ s

module _ (b : List ℕ) (p t f s : ℕ) where
  pub is : has_condition b p t f s ≡ true → (i : ℕ) × Is b p t f s i
  unfolding has_condition condition_is
  is h =
      let w = found_at (cond_count b) (condition_is b p t f s) h in
      let i = w.0 in
      let x = and_both (eqb (cond_node b i) t && eqb (place_of (cond_value b i)) p)
      (eqb (flag_of (cond_value b i)) f && eqb (sign_of (cond_value b i)) s) w.2 in
      let y = and_both (eqb (cond_node b i) t) (eqb (place_of (cond_value b i)) p) x.0 in
      let z = and_both (eqb (flag_of (cond_value b i)) f) (eqb (sign_of (cond_value b i)) s) x.1 in (
        i,
        record {
          below = w.1;
          node = eqb-true _ _ y.0;
          place = eqb-true _ _ y.1;
          flag = eqb-true _ _ z.0;
          sign = eqb-true _ _ z.1;
        },
      )

  pub has : (i : ℕ) → Is b p t f s i → has_condition b p t f s ≡ true
  unfolding has_condition condition_is
  has i r = some_yes (cond_count b) (condition_is b p t f s) i r.below
      (simp (eq-eqb _ _ r.node, eq-eqb _ _ r.place, eq-eqb _ _ r.flag, eq-eqb _ _ r.sign))

-- a value's parts
parts : (v f s p : ℕ) → f < 64 → s < 2 → v ≡ value_of f s p → (flag_of v ≡ f) × (sign_of v ≡ s) × (place_of v ≡ p)
unfolding flag_of sign_of place_of
parts v f s p l m e = (omega arith, omega arith, omega arith)

sign_one : (v : ℕ) → (sign_of v ≡ 0 → ⊥) → sign_of v ≡ 1
unfolding sign_of
sign_one v h = omega arith

sign_small : (v : Bool) → sign_number v < 2
sign_small true = omega arith
sign_small false = omega arith

-- the choice of a sign by two tests
chosen : (x y v : Bool) → cond x (some true) (cond y (some false) none) ≡ some v → cond v x y ≡ true
chosen true y true e = refl
chosen true y false e = let z : ◌≡◌ {A = ℕ} 0 1 = cc in absurd (omega arith)
chosen false true true e = let z : ◌≡◌ {A = ℕ} 0 1 = cc in absurd (omega arith)
chosen false true false e = refl
chosen false false v e = let z : ◌≡◌ {A = ℕ} 0 1 = cc in absurd (omega arith)

module _ (b : List ℕ) (k : Place) (t f : ℕ) where
  pub sign_is : (v : Bool) → sign_in b k t f ≡ some v → has_condition b (place_number k) t f (sign_number v) ≡ true
  unfolding sign_in
  sign_is true e = chosen (has_condition b (place_number k) t f 1) (has_condition b (place_number k) t f 0) true e
  sign_is false e = chosen (has_condition b (place_number k) t f 1) (has_condition b (place_number k) t f 0) false e

  module _ (signs : cause11 b ≡ false) where
    one_sign : has_condition b (place_number k) t f 0 ≡ true → has_condition b (place_number k) t f 1 ≡ false
    unfolding cause11
    one_sign h =
        not_passed (has_condition b (place_number k) t f 1)
        (λ y.
        let i = is b (place_number k) t f 0 h in
        let j = is b (place_number k) t f 1 y in
        let x = none_at (cond_count b) (both_signs b i.0)
        (none_at (cond_count b) (λ i. any_below (cond_count b) (both_signs b i)) signs i.0 i.1.below) j.0
        j.1.below in
        true≢false
        (sym
        (both_signs_of b i.0 j.0
        (record {
          node = j.1.node ∙ sym i.1.node;
          place = j.1.place ∙ sym i.1.place;
          flag = j.1.flag
              ∙ sym i.1.flag;
          clear = i.1.sign;
          set = j.1.sign;
        }))
        ∙ x))

    pub sign_has : (v : Bool) → has_condition b (place_number k) t f (sign_number v) ≡ true → sign_in b k t f ≡ some v
    unfolding sign_in
    sign_has true h = rw h
    sign_has false h = rw (one_sign h, h)

    -- 01's form of a value
    pub condition_pair : (v : Bool) → sign_in b k t f ≡ some v
        → ConditionPair b t (value_of f (sign_number v) (place_number k))
    condition_pair v e =
        let w = is b (place_number k) t f (sign_number v) (sign_is v e) in
        record {
          at = w.0;
          below = w.1.below;
          node = w.1.node;
          value = omega (arith, value_parts (cond_value b w.0), w.1.place, w.1.flag, w.1.sign);
        }

    pub pair_condition : (v : Bool) → f < 64 → ConditionPair b t (value_of f (sign_number v) (place_number k))
        → sign_in b k t f ≡ some v
    pair_condition v l r =
        let w = parts (cond_value b r.at) f (sign_number v) (place_number k) l (sign_small v) r.value in
        sign_has v (has b (place_number k) t f (sign_number v) r.at
        (record { below = r.below; node = r.node; place = w.2; flag = w.0; sign = w.1 }))

-- ---- orders
module _ (b : List ℕ) (x y : ℕ) where
  pub order_is_lem : T (has_order b x y) → OrderPair b x y
  unfolding has_order order_is
  order_is_lem h =
      let w = found_at (order_count b) (order_is b x y) (T_true _ h) in
      let r = and_both (eqb (earlier_of b w.0) x) (eqb (later_of b w.0) y) w.2 in
      record { at = w.0; below = w.1; earlier = eqb-true _ _ r.0; later = eqb-true _ _ r.1 }

  pub has_order_lem : OrderPair b x y → T (has_order b x y)
  unfolding has_order order_is
  has_order_lem r = true_T _ (some_yes (order_count b) (order_is b x y) r.at r.below
      (simp (eq-eqb _ _ r.earlier, eq-eqb _ _ r.later)))

-- ---- nodes
pub kind_group : (k : ℕ) → k ≢ 0 → kind_at k ≢ task
unfolding kind_at
kind_group k n q = apart (eqb k 1) (eqb k 2) (rw (ne_eqb k 0 n) at q)
  where
    apart : (x y : Bool) → cond x all_of (cond y any_of optional) ≡ task → ⊥
    apart true y q = clash cc
    apart false true q = clash cc
    apart false false q = clash cc

pub kind_task : (k : ℕ) → k ≡ 0 → kind_at k ≡ task
unfolding kind_at
kind_task k e = rw e

pub kind_all_of : (k : ℕ) → k ≡ 1 → kind_at k ≡ all_of
unfolding kind_at
kind_all_of k e = rw e

pub kind_number_lem : (k : ℕ) → k ≤ 3 → kind_number (kind_at k) ≡ k
unfolding kind_at
kind_number_lem zero l = refl
kind_number_lem (suc zero) l = refl
kind_number_lem (suc (suc zero)) l = refl
kind_number_lem (suc (suc (suc zero))) l = refl
kind_number_lem (suc (suc (suc (suc k)))) l = absurd (omega arith)

pub kind_is : (b : List ℕ) (n k : ℕ) → is_kind b n k ≡ true → (n < node_count b) × (kind_of b n ≡ k)
unfolding is_kind
kind_is b n k h = let w = and_both (ltb n (node_count b)) (eqb (kind_of b n) k) h in
    (ltb-true _ _ w.0, eqb-true _ _ w.1)

pub kind_of_lem : (b : List ℕ) (n k : ℕ) → n < node_count b → kind_of b n ≡ k → is_kind b n k ≡ true
unfolding is_kind
kind_of_lem b n k l e = and_of (ltb n (node_count b)) (eqb (kind_of b n) k) (lt-ltb _ _ l) (eq-eqb _ _ e)

pub group_is : (b : List ℕ) (n : ℕ) → is_group b n ≡ true → kind_of b n ≢ 0
unfolding is_group
group_is b n h z =
    ⊎_elim
    (λ x. ⊎_elim (λ y. omega (arith, (kind_is b n 1 y).1)) (λ y. omega (arith, (kind_is b n 2 y).1))
    (or_split (is_kind b n 1) (is_kind b n 2) x))
    (λ x. omega (arith, (kind_is b n 3 x).1))
    (or_split (is_kind b n 1 || is_kind b n 2) (is_kind b n 3) h)

pub child_is : (b : List ℕ) (g n : ℕ) → is_child b g n ≡ true → (0 < n) × (n < node_count b) × (parent_of b n ≡ g)
unfolding is_child
child_is b g n h =
    let w = and_three (ltb 0 n) (ltb n (node_count b)) (eqb (parent_of b n) g) h in
    (ltb-true 0 n w.0, ltb-true n (node_count b) w.1, eqb-true _ _ w.2)

-- ---- accepted bytes
module _ (b : List ℕ) (c : Clean b) where
  -- 6
  pub kind_limit : (n : ℕ) → n < node_count b → kind_of b n ≤ 3
  unfolding cause6 bad_entry
  kind_limit n l =
      let w = or_none (ltb 3 (kind_of b n) || (is_group b n && ltb 0 (minutes_of b n)))
      (is_kind b n 0 && ltb 10080 (minutes_of b n)) (none_at (node_count b) (bad_entry b) c.entries n l) in
      ltb-false 3 (kind_of b n) (or_none (ltb 3 (kind_of b n)) (is_group b n && ltb 0 (minutes_of b n)) w.0).0

  pub group_of : (n : ℕ) → n < node_count b → kind_at (kind_of b n) ≢ task → is_group b n ≡ true
  unfolding is_group
  group_of n l h =
      by_cases (ℕ_discrete (kind_of b n) 1) (λ (e : kind_of b n ≡ 1). rw (kind_of_lem b n 1 l e))
      (λ e. by_cases (ℕ_discrete (kind_of b n) 2)
      (λ (q : kind_of b n ≡ 2). rw (kind_of_lem b n 2 l q, or-true (is_kind b n 1)))
      (λ q.
      let o : kind_of b n ≡ 0 → ⊥ = λ z. h (kind_task (kind_of b n) z) in
      rw (kind_of_lem b n 3 l (omega (arith, kind_limit n l))) (or-true (is_kind b n 1 || is_kind b n 2))))

  -- 8
  pub child_of : (g : ℕ) → g < node_count b → is_group b g ≡ true
      → (n : ℕ) × (0 < n) × (n < node_count b) × (parent_of b n ≡ g)
  unfolding cause8 childless
  child_of g l h =
      let x = rw h at (none_at (node_count b) (childless b) c.children g l) in
      let w = found_at (node_count b) (λ n. eqb (parent_of b n) g) (not-false _ x) in
      let e = eqb-true (parent_of b w.0) g w.2 in (
        w.0,
        by_cases (ℕ_discrete w.0 0)
            (λ (z : w.0 ≡ 0). absurd (omega
            (arith, ap (parent_of b) z, root_parent b c.fits c.parents, c.fits.limits.nodes)))
            (λ z. omega arith),
        w.1,
        e,
      )

  -- 9
  pub on_task : (p t f s i : ℕ) → Is b p t f s i → (t < node_count b) × (kind_of b t ≡ 0) × (f < flag_count b)
  unfolding value_bad
  on_task p t f s i r =
      let w = condition_fits b c.fits c.conditions i r.below in
      let x = kind_is b (cond_node b i) 0 w.0 in
      let v = or_none (ltb 383 (cond_value b i)) (leb (flag_count b) (flag_of (cond_value b i))) w.1 in (
        omega (arith, x.0, r.node),
        ap (kind_of b) (sym r.node) ∙ x.1,
        omega (arith, leb-false (flag_count b) (flag_of (cond_value b i)) v.1, r.flag),
      )

  -- 12
  pub inc_post : (t f s i : ℕ) → Is b 1 t f s i → (u : Bool) × (has_condition b 2 t f (sign_number u) ≡ true)
  unfolding cause12 no_post
  inc_post t f s i r =
      let x = rw (eq-eqb (place_of (cond_value b i)) 1 r.place) at
      (none_at (cond_count b) (no_post b) c.posts i r.below) in
      let w = found_at (cond_count b) (post_of b i) (not-false _ x) in
      let q = post_of_lem b i w.0 w.2 in
      by_cases (ℕ_discrete (sign_of (cond_value b w.0)) 0)
      (λ (z : sign_of (cond_value b w.0) ≡ 0). (
        false,
        has b 2 t f 0 w.0 (record
            { below = w.1; node = q.node ∙ r.node; place = q.post; flag = q.flag ∙ r.flag; sign = z }),
      ))
      (λ z. (
        true,
        has b 2 t f 1 w.0
            (record {
              below = w.1;
              node = q.node ∙ r.node;
              place = q.post;
              flag = q.flag ∙ r.flag;
              sign = sign_one (cond_value b w.0) z;
            }),
      ))

  -- 13
  pub good_pair : (x y : ℕ) → T (has_order b x y) → bad_pair b x y ≡ false
  unfolding cause13 bad_order
  good_pair x y o = let w = order_is_lem b x y o in
      rw (w.earlier, w.later) at (none_at (order_count b) (bad_order b) c.orders w.at w.below)

  pub siblings : (x y : ℕ) → bad_pair b x y ≡ false
      → (x < y) × (kind_of b (parent_of b x) ≡ 1) × (is_child b (parent_of b x) x ≡ true)
      × (is_child b (parent_of b x) y ≡ true)
  unfolding bad_pair
  siblings x y h =
      let g = parent_of b x in
      let w = or_none (not (is_kind b g 1 && is_child b g x && is_child b g y)) (not (ltb x y)) h in
      let p = and_three (is_kind b g 1) (is_child b g x) (is_child b g y) (not-false _ w.0) in
      (ltb-true x y (not-false _ w.1), (kind_is b g 1 p.0).1, p.1, p.2)

  pub meaning_accepted : Accepted (plan_of b)
  unfolding plan_of
  meaning_accepted =
      record {
        nodes = λ n. (ltb→lt n (node_count b), lt→ltb n (node_count b));
        some_node = c.fits.limits.some_node;
        parent_lower = λ n z l. let w = parent_group b c.fits c.parents n z l in
            (w.0, kind_group (kind_of b (parent_of b n)) (group_is b (parent_of b n) w.1));
        has_child = λ g l h. let w = child_of g l (group_of g l h) in
            (w.0, record { not_root = w.1; node = lt→ltb w.0 (node_count b) w.2; up = w.3 });
        on_task = λ k t f v e. let w = is b (place_number k) t f (sign_number v) (sign_is b k t f v e) in
            let x = on_task (place_number k) t f (sign_number v) w.0 w.1 in
            (x.0, kind_task (kind_of b t) x.1, x.2);
        inc_post = λ t f v e. let w = is b 1 t f (sign_number v) (sign_is b inc t f v e) in
            let x = inc_post t f (sign_number v) w.0 w.1 in (x.0, sign_has b post t f c.signs x.0 x.1);
        orders = λ x y o.
            let s = siblings x y (good_pair x y o) in
            let u = child_is b (parent_of b x) x s.2 in
            let v = child_is b (parent_of b x) y s.3 in (
              s.0,
              (
                parent_of b x,
                kind_all_of (kind_of b (parent_of b x)) s.1,
                record { not_root = u.0; node = lt→ltb x (node_count b) u.1; up = u.2 },
                record { not_root = v.0; node = lt→ltb y (node_count b) v.1; up = v.2 },
              ),
            );
      }

-- accepted bytes mean a plan
pub means : (b : List ℕ) → refusal b ≡ 0 → Means b (plan_of b)
unfolding plan_of
means b e =
    let c = clean b e in
    record {
      size = refl;
      flags = refl;
      kind = λ n l. kind_number_lem (kind_of b n) (kind_limit b c n l);
      parent = λ n l. refl;
      condition = λ k t f v l. (condition_pair b k t f c.signs v, pair_condition b k t f c.signs v l);
      order = λ x y. (order_is_lem b x y, has_order_lem b x y);
      accepted = meaning_accepted b c;
    }

-- that is well formed, a node's number the rank of its orders
pub means_well_formed : (b : List ℕ) → refusal b ≡ 0 → WellFormed (plan_of b)
means_well_formed b e = accepted_well_formed (plan_of b) (means b e).accepted

pub means_rank : (b : List ℕ) (e : refusal b ≡ 0) (n : ℕ) → (means_well_formed b e).rank n ≡ n
unfolding means_well_formed
means_rank b e n = accepted_rank (plan_of b) (means b e).accepted n
