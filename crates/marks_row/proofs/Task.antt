-- The facts of a task, by its conditions. Assumes nothing.
use mathlib.Core.Path.{◌≡◌, refl}
use mathlib.Core.Logic.Iff
use mathlib.Core.Logic.{◌⊎◌, inl, inr, ⊎_elim, ◌↔◌}
use mathlib.Core.Bool.{Bool, true, false}
use mathlib.Core.Option.{Option, none, some}
use Prim.Native.Nat.{ℕ}
use Rattle.runs.specs.Plan.{task, Place, pre, inc, post, Plan, itself}
use Rattle.runs.specs.WellFormed.{WellFormed}
use Rattle.runs.specs.Execution.{start, finish, last_asserted_of, last_asserted}
use Rattle.runs.specs.Pairs.{TaskWith}
use Rattle.runs.proofs.Reflect.{clash}
use Rattle.runs.proofs.Execution.Final.{under_task}
use Rattle.runs.specs.Classes.{Neutral, Covers}
use Rattle.runs.proofs.Summary.Quiet.{quiet_task}
use Rattle.runs.proofs.Summary.Meet.{meet_task}
use Rattle.runs.proofs.Summary.ByChildren.{pre_task, post_task, inc_task}
use Rattle.runs.proofs.Summary.MayMust.{whole, may_task, must_task}
use Rattle.marks_row.specs.Columns.{avoid, quiet, covered, may_pre, may_post, may_inc, must_inc, Fact}

-- a condition has one sign or the other, or there is none
pub no_sign : (o : Option Bool) → (¬ ((o ≡ some false) ⊎ (o ≡ some true))) ↔ (o ≡ none)
no_sign none = (λ k. refl, λ q. neither)
  where
    neither : ¬ ((none ≡ some false) ⊎ (none ≡ some true))
    neither (inl e) = clash cc
    neither (inr e) = clash cc
no_sign (some false) = (λ k. absurd (k (inl refl)), λ q. clash cc)
no_sign (some true) = (λ k. absurd (k (inr refl)), λ q. clash cc)

pub a_sign : (o : Option Bool) → ((o ≡ some false) ⊎ (o ≡ some true)) ↔ (¬ (o ≡ none))
a_sign none = (λ x q. (no_sign none).1 refl x, λ k. absurd (k refl))
a_sign (some false) = (λ x q. clash cc, λ k. inl refl)
a_sign (some true) = (λ x q. clash cc, λ k. inr refl)

module _ (p : Plan) (w : WellFormed p) {n : ℕ} (k : p.tree.kind n ≡ task) (f : ℕ) where
  -- a task with no postcondition on the flag has no incondition on it
  no_inc : p.conditions.sign post n f ≡ none → p.conditions.sign inc n f ≡ none
  no_inc q = at (p.conditions.sign inc n f) refl
    where
      at : (o : Option Bool) → p.conditions.sign inc n f ≡ o → p.conditions.sign inc n f ≡ none
      at none e = e
      at (some u) e = let (z, y) = w.inc_post n f u e in clash cc

  pub avoid_task : (p.conditions.sign post n f ≡ none) ↔ Fact p n f avoid
  unfolding last_asserted_of
  avoid_task = (
    λ q. (may_task p w (λ h. last_asserted p h f ≡ none) k).1 (rw (q, no_inc q)),
    λ m. at (p.conditions.sign post n f) refl ((may_task p w (λ h. last_asserted p h f ≡ none) k).0 m),
  )
    where
      at : (o : Option Bool) → p.conditions.sign post n f ≡ o → last_asserted p (whole n) f ≡ none
          → p.conditions.sign post n f ≡ none
      at none e x = e
      at (some u) e x = let y : some u ≡ none = rw e at x in clash cc

  module _ (v : Bool) where
    abbrev Has : Place → Type 0
    Has place = p.conditions.sign place n f ≡ some v

    pub quiet_is : ((p.conditions.sign post n f ≡ none) × (¬ Has pre)) ↔ Fact p n f (quiet v)
    quiet_is = (
      λ x. (quiet_task p w (Neutral p f v) k).1 ((x.1, no_inc x.0), (λ q. clash cc, x.0)),
      λ m. let x = (quiet_task p w (Neutral p f v) k).0 m in (x.1.1, x.0.0),
    )

    pub covered_is : ((¬ (p.conditions.sign post n f ≡ none)) × (¬ Has pre)) ↔ Fact p n f (covered v)
    covered_is = (
      λ x. (meet_task p w (Neutral p f v) (Covers p f v) k).1 (to x (p.conditions.sign inc n f) refl),
      λ m. from ((meet_task p w (Neutral p f v) (Covers p f v) k).0 m),
    )
      where
        to : (¬ (p.conditions.sign post n f ≡ none)) × (¬ Has pre) → (o : Option Bool)
            → p.conditions.sign inc n f ≡ o
            → Covers p f v (start n) ⊎ (Neutral p f v (start n) × Covers p f v (finish n))
        to x none e = inr ((x.1, e), (λ q. clash cc, x.0))
        to x (some u) e = inl (x.1, λ q. clash cc)

        from : Covers p f v (start n) ⊎ (Neutral p f v (start n) × Covers p f v (finish n))
            → (¬ (p.conditions.sign post n f ≡ none)) × (¬ Has pre)
        from (inl x) = (λ q. x.1 (no_inc q), x.0)
        from (inr x) = (x.1.1, x.0.0)

    pub may_pre_is : Has pre ↔ Fact p n f (may_pre v)
    may_pre_is = Iff.symm (Iff.trans (may_task p w _ k) (pre_task p w f v n))

    pub may_post_is : Has post ↔ Fact p n f (may_post v)
    may_post_is = Iff.symm (Iff.trans (may_task p w _ k) (post_task p w f v n))

    pub may_inc_is : Has inc ↔ Fact p n f (may_inc v)
    may_inc_is = Iff.symm (Iff.trans (may_task p w _ k) (inc_task p w f v n))

    pub must_inc_is : Has inc ↔ Fact p n f (must_inc v)
    must_inc_is = Iff.symm (Iff.trans (must_task p w _ k) (inc_task p w f v n))

    pub with_is : (i j : Place) → (Has i ⊎ Has j) ↔ TaskWith p i j f v n
    with_is i j = (
      λ x. record { who = n; is_task = k; beneath = itself; has = x },
      λ x. rw (under_task p w k x.beneath) x.has,
    )

    pub posts_is : Has post ↔ TaskWith p post post f v n
    posts_is = Iff.trans (inl, λ x. ⊎_elim (λ h. h) (λ h. h) x) (with_is post post)
