-- The rules by children for the marks of the conditions, each exact: at a task its conditions, at an all_of group a
-- rule for each mark. (At a choice the rule is the same for all of them: MayMust; at an optional group the skip alone
-- has none of the conditions. Clobber and ReflectClobber have marks 6 and 7.)
use Rattle.runs.proofs.Base.{◌≡◌, refl, ◌∙◌, ◌⊎◌, inl, inr, ◌↔◌, Iff·trans, Bool, Option, none, some, [], ◌∷◌, ℕ}
use Rattle.runs.specs.Tests.{negate}
use Rattle.runs.specs.Plan.{all_of, pre, inc, post, Plan, Node, Child, Before}
use Rattle.runs.specs.WellFormed.{WellFormed}
use Rattle.runs.specs.Execution.{Event, start, finish, skip, History, last_asserted_of, last_asserted, Earlier}
use Rattle.runs.specs.Execution.{none_later, one_later}
use Rattle.runs.specs.Summary.{May, Must, ExternalPre, ExternalPost, Incondition}
use Rattle.runs.specs.Model.Marks.{quiet_b, begins_inc_b}
use Rattle.runs.proofs.Reflect.{clash, Reflects, decided, r_negate}
use Rattle.runs.proofs.Plan.{before_child, r_some_child}
use Rattle.runs.specs.Classes.{Anything, Unasserted, Asserts, PreOn, BeginsInc, Neutral, Covers, MayQuiet}
use Rattle.runs.proofs.Execution.{earlier_inv, earlier_nil}
use Rattle.runs.proofs.Summary.Events.{r_begins_inc}
use Rattle.runs.proofs.Summary.Inconditions.{incondition_begun, begun_incondition, may_inc_is_meet, must_inc_is}
use Rattle.runs.proofs.Summary.Last.{last_all}
use Rattle.runs.proofs.Summary.MayMust.{whole, skip_only}
use Rattle.runs.proofs.Summary.Meet.{meet_all}
use Rattle.runs.proofs.Summary.Postconditions.{avoid_is_quiet, may_post_is_last}
use Rattle.runs.proofs.Summary.Preconditions.{may_pre_is_meet}
use Rattle.runs.proofs.Summary.Quiet.{quiet_all, quiet_anything}
use Rattle.runs.proofs.Summary.ReflectConditions.{r_quiet}

module _ (p : Plan) (w : WellFormed p) where
  -- the events of a task's one completed execution
  one_of : (n : ℕ) {e : Event} {r : History} → Earlier (e ∷ r) (whole n) → (e ≡ finish n) ⊎ (e ≡ start n)
  one_of n {e} {r} q = at (earlier_inv q)
    where
      at : (e ∷ r ≡ whole n) ⊎ Earlier (e ∷ r) (start n ∷ []) → (e ≡ finish n) ⊎ (e ≡ start n)
      at (inl z) = inl cc
      at (inr y) = first (earlier_inv y)
        where
          first : (e ∷ r ≡ start n ∷ []) ⊎ Earlier (e ∷ r) [] → (e ≡ finish n) ⊎ (e ≡ start n)
          first (inl z) = inr cc
          first (inr z) = absurd (earlier_nil z refl)

  -- the one event of a skip alone
  the_skip : (n : ℕ) {e : Event} {r : History} → Earlier (e ∷ r) (skip_only n) → e ≡ skip n
  the_skip n {e} {r} q = at (earlier_inv q)
    where
      at : (e ∷ r ≡ skip_only n) ⊎ Earlier (e ∷ r) [] → e ≡ skip n
      at (inl z) = cc
      at (inr z) = absurd (earlier_nil z refl)

  module _ (f : ℕ) where
    -- some completed execution does not assert the flag; all_of: every child has one
    abbrev pub Avoids : ℕ → Type 0
    Avoids n = May p n (λ h. last_asserted p h f ≡ none)

    pub avoids_all : {n : ℕ} → p.tree.kind n ≡ all_of → Avoids n ↔ ((c : ℕ) → Child p n c → Avoids c)
    avoids_all k = Iff·trans (avoid_is_quiet p f) (Iff·trans (quiet_all p w (Unasserted p f) k)
        (λ g c hc. (avoid_is_quiet p f).1 (g c hc), λ g c hc. (avoid_is_quiet p f).0 (g c hc)))

    pub avoids_skip : (n : ℕ) → last_asserted p (skip_only n) f ≡ none
    unfolding last_asserted_of
    avoids_skip n = refl

    module _ (v : Bool) where
      -- the skip of an optional group is neutral; alone, it has no condition
      pub neutral_skip : (n : ℕ) → Neutral p f v (skip n)
      neutral_skip n = (λ q. clash cc, refl)

      pub covers_skip : (n : ℕ) → ¬ Covers p f v (skip n)
      covers_skip n x = x.1 refl

      pub pre_skip : (n : ℕ) → ¬ ExternalPre p f v (skip_only n)
      pre_skip n x = let z = the_skip n x.at in let y : PreOn p f v (skip n) = rw z at x.needs in clash cc

      pub post_skip : (n : ℕ) → ¬ ExternalPost p f v (skip_only n)
      post_skip n x = let z = avoids_skip n in clash cc

      pub inc_skip : (n : ℕ) → ¬ Incondition p f v (skip_only n)
      inc_skip n x = let b = incondition_begun p f v x in rw (the_skip n b.at) at b.begins

      -- at a task: it has the condition
      pub pre_task : (n : ℕ) → ExternalPre p f v (whole n) ↔ (p.conditions.sign pre n f ≡ some v)
      unfolding last_asserted_of
      pre_task n = (
        λ x. at x.needs (one_of n x.at),
        λ q. record { event = start n; before = []; at = one_later none_later; needs = q; unasserted = refl },
      )
        where
          at : {e : Event} → PreOn p f v e → (e ≡ finish n) ⊎ (e ≡ start n) → p.conditions.sign pre n f ≡ some v
          at q (inl z) = let y : PreOn p f v (finish n) = rw z at q in clash cc
          at q (inr z) = rw z at q

      pub post_task : (n : ℕ) → ExternalPost p f v (whole n) ↔ (p.conditions.sign post n f ≡ some v)
      unfolding last_asserted_of
      post_task n = (to (p.conditions.sign post n f) refl (p.conditions.sign inc n f) refl, λ q. rw q)
        where
          to : (o : Option Bool) → p.conditions.sign post n f ≡ o → (i : Option Bool)
              → p.conditions.sign inc n f ≡ i
              → last_asserted p (whole n) f ≡ some v
              → p.conditions.sign post n f ≡ some v
          to none q none r x = let y : none ≡ some v = rw (q, r) at x in clash cc
          to none q (some u) r x = let (z, y) = w.inc_post n f u r in clash cc
          to (some u) q i r x = q ∙ (rw q at x)

      pub inc_task : (n : ℕ) → Incondition p f v (whole n) ↔ (p.conditions.sign inc n f ≡ some v)
      inc_task n = (
        λ x. let b = incondition_begun p f v x in at b.begins (one_of n b.at),
        λ q. begun_incondition p f v (record { event = start n; before = []; at = one_later none_later; begins = q }),
      )
        where
          at : {e : Event} → BeginsInc p f v e → (e ≡ finish n) ⊎ (e ≡ start n) → p.conditions.sign inc n f ≡ some v
          at b (inl z) = absurd (rw z at b)
          at b (inr z) = rw z at b

      -- may need, all_of: some child may need it, and all that stands before that child can avoid the flag
      pub may_pre_all : {n : ℕ} → Node p n → p.tree.kind n ≡ all_of
          → May p n (ExternalPre p f v) ↔
          ((c : ℕ) × Child p n c × May p c (ExternalPre p f v) × ((a : ℕ) → Before p a c → Avoids a))
      may_pre_all l k = Iff·trans (may_pre_is_meet p w f v l)
          (Iff·trans (meet_all p w (Unasserted p f) (PreOn p f v) k) (
            λ x. (
              x.0,
              x.1,
              (may_pre_is_meet p w f v x.1.node).1 x.2,
              λ a q. (avoid_is_quiet p f).1 (x.3 a q),
            ),
            λ x. (
              x.0,
              x.1,
              (may_pre_is_meet p w f v x.1.node).0 x.2,
              λ a q. (avoid_is_quiet p f).0 (x.3 a q),
            ),
          ))

      -- may leave, all_of: some child may leave it, and all that stands after that child can avoid the flag
      pub may_post_all : {n : ℕ} → p.tree.kind n ≡ all_of
          → May p n (ExternalPost p f v) ↔
          ((c : ℕ) × Child p n c × May p c (ExternalPost p f v) × ((b : ℕ) → Child p n b → Before p c b → Avoids b))
      may_post_all k = Iff·trans (may_post_is_last p f v) (Iff·trans (last_all p w (Unasserted p f) (Asserts p f v) k) (
        λ x. (x.0, x.1, (may_post_is_last p f v).1 x.2, λ b hb q. (avoid_is_quiet p f).1 (x.3 b hb q)),
        λ x. (x.0, x.1, (may_post_is_last p f v).0 x.2, λ b hb q. (avoid_is_quiet p f).0 (x.3 b hb q)),
      ))

      abbrev Without : Event → Type 0
      Without e = ¬ BeginsInc p f v e

      -- may hold, must hold, all_of: some child
      pub may_inc_all : {n : ℕ} → Node p n → p.tree.kind n ≡ all_of
          → May p n (Incondition p f v) ↔ ((c : ℕ) × Child p n c × May p c (Incondition p f v))
      may_inc_all l k = Iff·trans (may_inc_is_meet p f v w l) (Iff·trans (meet_all p w Anything (BeginsInc p f v) k) (
        λ x. (x.0, x.1, (may_inc_is_meet p f v w x.1.node).1 x.2),
        λ x. (
          x.0,
          x.1,
          (may_inc_is_meet p f v w x.1.node).0 x.2,
          λ a q. quiet_anything p w a (before_child p w x.1 q).node,
        ),
      ))

      pub must_inc_all : {n : ℕ} → p.tree.kind n ≡ all_of
          → Must p n (Incondition p f v) ↔ ((c : ℕ) × Child p n c × Must p c (Incondition p f v))
      must_inc_all {n} k = (
        λ m. find (λ g. (must_inc_is p f v w).0 m ((quiet_all p w Without k).1 g))
            (decided (r_some_child p w (λ c. ¬ MayQuiet p Without c) _ r_loud)),
        λ x. (must_inc_is p f v w).1 (λ q. (must_inc_is p f v w).0 x.2
            ((quiet_all p w Without k).0 q x.0 x.1)),
      )
        where
          r_loud : (c : ℕ) → Child p n c → Reflects (negate (quiet_b p (λ e. negate (begins_inc_b p f v e)) c))
              (¬ MayQuiet p Without c)
          r_loud c hc = r_negate _ (r_quiet p w Without _ (λ e. r_negate _ (r_begins_inc p f v e)) c hc.node)

          find : ¬ ((c : ℕ) → Child p n c → MayQuiet p Without c)
              → Dec ((c : ℕ) × Child p n c × (¬ MayQuiet p Without c))
              → (c : ℕ) × Child p n c × Must p c (Incondition p f v)
          find g (yes (c, hc, k)) = (c, hc, (must_inc_is p f v w).1 k)
          find g (no none_loud) = absurd (g
              (λ c hc. still c hc (decided (r_quiet p w Without _ (λ e. r_negate _ (r_begins_inc p f v e)) c
              hc.node))))
            where
              still : (c : ℕ) → Child p n c → Dec (MayQuiet p Without c) → MayQuiet p Without c
              still c hc (yes q) = q
              still c hc (no k) = absurd (none_loud (c, hc, k))
