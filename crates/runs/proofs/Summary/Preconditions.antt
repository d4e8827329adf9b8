-- May and must external precondition, through quiet and meet.
use Rattle.runs.proofs.Base.{◌≡◌, ◌⊎◌, inl, inr, ◌↔◌, Bool, none, [], ◌∷◌, ◌++◌, ℕ}
use Rattle.runs.specs.Plan.{Plan, Node}
use Rattle.runs.specs.WellFormed.{WellFormed}
use Rattle.runs.specs.Execution.{Event, History, Execution, Completed, asserts, Earlier, none_later, one_later}
use Rattle.runs.specs.Summary.{May, Must, ExternalPre}
use Rattle.runs.proofs.Reflect.{decided}
use Rattle.runs.specs.Classes.{All, all_nil, all_cons, Unasserted, PreOn, Neutral, Covers, MayQuiet, MayMeet}
use Rattle.runs.proofs.Execution.{earlier_append, earlier_compare, all_at, earlier_execution, Extended, extends}
use Rattle.runs.proofs.Summary.Events.{r_pre, r_unasserted, unasserted_all, all_unasserted}

module _ (p : Plan) (w : WellFormed p) (f : ℕ) (v : Bool) where
  -- may external precondition: meet the precondition, the flag unasserted before
  pub may_pre_is_meet : {n : ℕ} → Node p n → May p n (ExternalPre p f v) ↔ MayMeet p (Unasserted p f) (PreOn p f v) n
  may_pre_is_meet {n} l = (
    λ m. record {
      event = m.holds.event;
      before = m.holds.before;
      execution = earlier_execution p w m.holds.at m.completed.execution;
      hit = m.holds.needs;
      quiet = unasserted_all p f m.holds.before m.holds.unasserted;
    },
    λ m. from m.event m.before m.execution m.hit m.quiet,
  )
    where
      from : (e : Event) (r : History) → Execution p n (e ∷ r) → PreOn p f v e → All (Unasserted p f) r
          → May p n (ExternalPre p f v)
      from e r fr h q = let g : Extended p w n (e ∷ r) = extends p w n l (e ∷ r) fr in
          record {
            history = g.more ++ (e ∷ r);
            completed = g.completed;
            holds = record {
              event = e;
              before = r;
              at = earlier_append g.more (e ∷ r);
              needs = h;
              unasserted = all_unasserted p f q;
            };
          }

  -- the first event of a history that matters: none, one with the precondition, or one that covers it
  data Outcome (h : History) : Type 0 where
    all_neutral : All (Neutral p f v) h → Outcome h
    needed : ExternalPre p f v h → Outcome h
    covered : (e : Event) (r : History) → Earlier (e ∷ r) h → Covers p f v e → All (Neutral p f v) r → Outcome h

  neutral_unasserted : {h : History} → All (Neutral p f v) h → All (Unasserted p f) h
  neutral_unasserted all_nil = all_nil
  neutral_unasserted (all_cons q a) = all_cons q.1 (neutral_unasserted a)

  outcome_next : (e : Event) (h : History) → Outcome h → Outcome (e ∷ h)
  outcome_next e h (all_neutral a) = go (decided (r_pre p f v e)) (decided (r_unasserted p f e))
    where
      go : Dec (PreOn p f v e) → Dec (asserts p e f ≡ none) → Outcome (e ∷ h)
      go (yes q) d = needed (record {
        event = e;
        before = h;
        at = none_later;
        needs = q;
        unasserted = all_unasserted p f (neutral_unasserted a);
      })
      go (no k) (yes u) = all_neutral (all_cons (k, u) a)
      go (no k) (no k') = covered e h none_later (k, k') a
  outcome_next e h (needed x) = needed
      (record {
        event = x.event;
        before = x.before;
        at = one_later x.at;
        needs = x.needs;
        unasserted = x.unasserted;
      })
  outcome_next e h (covered x r q s a) = covered x r (one_later q) s a

  outcome : (h : History) → Outcome h
  outcome [] = all_neutral all_nil
  outcome (e ∷ h) = outcome_next e h (outcome h)

  -- must external precondition: no completed execution is neutral throughout, and none is neutral up to an event that
  -- covers the precondition
  pub must_pre_is : {n : ℕ} → Node p n
      → Must p n (ExternalPre p f v) ↔
      ((¬ MayQuiet p (Neutral p f v) n) × (¬ MayMeet p (Neutral p f v) (Covers p f v) n))
  must_pre_is {n} l = (λ m. (λ q. quiet_not (m q.history q.completed) q.holds, λ q. meet_not m q), from)
    where
      quiet_not : {h : History} → ExternalPre p f v h → All (Neutral p f v) h → ⊥
      quiet_not x a = (all_at x.at a).0 x.needs

      not_both : {h : History} (e : Event) (r : History) → Covers p f v e → All (Neutral p f v) r
          → (x : ExternalPre p f v h)
          → Earlier (e ∷ r) (x.event ∷ x.before) ⊎ Earlier (x.event ∷ x.before) (e ∷ r) → ⊥
      not_both e r s a x (inl none_later) = s.0 x.needs
      not_both e r s a x (inl (one_later q)) = s.1 (all_at q (unasserted_all p f x.before x.unasserted))
      not_both e r s a x (inr none_later) = s.0 x.needs
      not_both e r s a x (inr (one_later q)) = (all_at q a).0 x.needs

      meet_not : ((h : History) → Completed p n h → ExternalPre p f v h) → MayMeet p (Neutral p f v) (Covers p f v) n
          → ⊥
      meet_not m q = let g : Extended p w n (q.event ∷ q.before) =
          extends p w n l (q.event ∷ q.before) q.execution in
          let x : ExternalPre p f v (g.more ++ (q.event ∷ q.before)) =
          m (g.more ++ (q.event ∷ q.before)) g.completed in
          not_both q.event q.before q.hit q.quiet x
          (earlier_compare (earlier_append g.more (q.event ∷ q.before)) x.at)

      from : (¬ MayQuiet p (Neutral p f v) n) × (¬ MayMeet p (Neutral p f v) (Covers p f v) n) → (h : History)
          → Completed p n h → ExternalPre p f v h
      from (a, b) h wh = at (outcome h)
        where
          at : Outcome h → ExternalPre p f v h
          at (all_neutral q) = absurd (a (record { history = h; completed = wh; holds = q }))
          at (needed x) = x
          at (covered e r q s al) = absurd
              (b (record {
                event = e;
                before = r;
                execution = earlier_execution p w q wh.execution;
                hit = s;
                quiet = al;
              }))
