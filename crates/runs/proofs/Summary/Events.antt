-- The tests for the classes of events reflect them; and what a history last asserted, by its events.
use Rattle.runs.proofs.Base.{◌≡◌, refl, Bool, Option, none, some, [], ◌∷◌, ℕ, ◌<◌}
use Rattle.runs.specs.Plan.{pre, Plan}
use Rattle.runs.specs.WellFormed.{WellFormed}
use Rattle.runs.specs.Execution.{Event, start, finish, skip, History, pre_of, last_asserted_of, asserts}
use Rattle.runs.specs.Execution.{last_asserted}
use Rattle.runs.specs.Model.Marks.{unasserted_b, pre_b, asserts_b, begins_inc_b, neutral_b, covers_b}
use Rattle.runs.proofs.Reflect.{clash, Reflects, r_none, r_some, r_both, r_negate}
use Rattle.runs.specs.Classes.{All, all_nil, all_cons, Unasserted, Asserts, PreOn, BeginsInc, Neutral, Covers}

module _ (p : Plan) (f : ℕ) where
  pub r_unasserted : (e : Event) → Reflects (unasserted_b p f e) (Unasserted p f e)
  unfolding unasserted_b
  r_unasserted e = r_none _

  pub unasserted_all : (h : History) → last_asserted p h f ≡ none → All (Unasserted p f) h
  unfolding last_asserted_of
  unasserted_all [] q = all_nil
  unasserted_all (e ∷ h) q = go (asserts p e f) refl (λ x. unasserted_all h x)
    where
      go : (o : Option Bool) → asserts p e f ≡ o → (last_asserted p h f ≡ none → All (Unasserted p f) h)
          → All (Unasserted p f) (e ∷ h)
      go none r ih = all_cons r (ih (rw r at q))
      go (some v) r ih = let x : some v ≡ none = rw r at q in clash cc

  pub all_unasserted : {h : History} → All (Unasserted p f) h → last_asserted p h f ≡ none
  unfolding last_asserted_of
  all_unasserted all_nil = refl
  all_unasserted (all_cons r a) = rw r (all_unasserted a)

  module _ (v : Bool) where
    pub r_asserts : (e : Event) → Reflects (asserts_b p f v e) (Asserts p f v e)
    unfolding asserts_b
    r_asserts e = r_some _ _

    pub r_pre : (e : Event) → Reflects (pre_b p f v e) (PreOn p f v e)
    unfolding pre_b
    r_pre e = r_some _ _

    pub r_begins_inc : (e : Event) → Reflects (begins_inc_b p f v e) (BeginsInc p f v e)
    unfolding begins_inc_b
    r_begins_inc (start t) = r_some _ _
    r_begins_inc (finish t) = record { to = λ t. t; from = λ t. t }
    r_begins_inc (skip g) = record { to = λ t. t; from = λ t. t }

    pub r_neutral : (e : Event) → Reflects (neutral_b p f v e) (Neutral p f v e)
    unfolding neutral_b
    r_neutral e = r_both _ _ (r_negate _ (r_pre e)) (r_unasserted e)

    pub r_covers : (e : Event) → Reflects (covers_b p f v e) (Covers p f v e)
    unfolding covers_b
    r_covers e = r_both _ _ (r_negate _ (r_pre e)) (r_negate _ (r_unasserted e))

-- a precondition is on a flag of the plan
pub pre_flag : (p : Plan) → WellFormed p → {f : ℕ} {v : Bool} (e : Event) → pre_of p.conditions e f ≡ some v
    → f < p.conditions.flags
pre_flag p w {f} {v} (start t) q = (w.on_task pre t f v q).2
pre_flag p w {f} {v} (finish t) q = clash cc
pre_flag p w {f} {v} (skip g) q = clash cc
