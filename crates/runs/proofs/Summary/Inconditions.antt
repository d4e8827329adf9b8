-- May and must incondition, through quiet and meet: a task with it runs at some time exactly if an event of the history
-- begins it.
use Rattle.runs.proofs.Base.{◌⊎◌, inl, inr, ◌↔◌, Bool, [], ◌∷◌, ◌++◌, ℕ}
use Rattle.runs.specs.Plan.{Plan, Node}
use Rattle.runs.specs.WellFormed.{WellFormed}
use Rattle.runs.specs.Execution.{Event, start, finish, skip, History, Completed, Earlier, none_later, one_later}
use Rattle.runs.specs.Summary.{May, Must, Incondition}
use Rattle.runs.proofs.Reflect.{decided}
use Rattle.runs.specs.Classes.{All, all_nil, all_cons, Anything, BeginsInc, MayQuiet, MayMeet}
use Rattle.runs.proofs.Execution.{after_same, all_anything, earlier_append, earlier_trans, all_at}
use Rattle.runs.proofs.Execution.{earlier_execution, Extended, extends, running_started}
use Rattle.runs.proofs.Summary.Events.{r_begins_inc}

module _ (p : Plan) (f : ℕ) (v : Bool) where
  -- an event of the history begins the incondition
  pub record Begun (h : History) : Type 0 where
    pub event : Event
    pub before : History
    pub at : Earlier (event ∷ before) h
    pub begins : BeginsInc p f v event

  pub incondition_begun : {h : History} → Incondition p f v h → Begun h
  incondition_begun x = let (r, q) = running_started x.until x.who x.runs in
      record { event = start x.who; before = r; at = earlier_trans q x.at; begins = x.holds }

  pub begun_incondition : {h : History} → Begun h → Incondition p f v h
  begun_incondition {h} x = go x.event x.before x.at x.begins
    where
      go : (e : Event) (r : History) → Earlier (e ∷ r) h → BeginsInc p f v e → Incondition p f v h
      go (start t) r q b = record { who = t; holds = b; until = start t ∷ r; at = q; runs = after_same (start t) r }
      go (finish t) r q b = absurd b
      go (skip g) r q b = absurd b

  module _ (w : WellFormed p) where
    -- may incondition: meet an event that begins it, whatever is before
    pub may_inc_is_meet : {n : ℕ} → Node p n → May p n (Incondition p f v) ↔ MayMeet p Anything (BeginsInc p f v) n
    may_inc_is_meet {n} l = (λ m. to m (incondition_begun m.holds), from)
      where
        to : (m : May p n (Incondition p f v)) → Begun m.history → MayMeet p Anything (BeginsInc p f v) n
        to m x = record {
          event = x.event;
          before = x.before;
          execution = earlier_execution p w x.at m.completed.execution;
          hit = x.begins;
          quiet = all_anything x.before;
        }

        from : MayMeet p Anything (BeginsInc p f v) n → May p n (Incondition p f v)
        from m = let g : Extended p w n (m.event ∷ m.before) =
            extends p w n l (m.event ∷ m.before) m.execution in
            record {
              history = g.more ++ (m.event ∷ m.before);
              completed = g.completed;
              holds = begun_incondition (record {
                event = m.event;
                before = m.before;
                at = earlier_append g.more (m.event ∷ m.before);
                begins = m.hit;
              });
            }

    -- must incondition: no completed execution is without such an event
    pub must_inc_is : {n : ℕ} → Must p n (Incondition p f v) ↔ (¬ MayQuiet p (λ e. ¬ BeginsInc p f v e) n)
    must_inc_is {n} = (λ m q. never q (incondition_begun (m q.history q.completed)), λ k h x. at k h x (look h))
      where
        never : (q : MayQuiet p (λ e. ¬ BeginsInc p f v e) n) → Begun q.history → ⊥
        never q x = all_at x.at q.holds x.begins

        look : (h : History) → All (λ e. ¬ BeginsInc p f v e) h ⊎ Begun h
        look [] = inl all_nil
        look (e ∷ h) = go (decided (r_begins_inc p f v e)) (look h)
          where
            go : Dec (BeginsInc p f v e) → All (λ e. ¬ BeginsInc p f v e) h ⊎ Begun h
                → All (λ e. ¬ BeginsInc p f v e) (e ∷ h) ⊎ Begun (e ∷ h)
            go d (inr x) = inr (record {
              event = x.event;
              before = x.before;
              at = one_later x.at;
              begins = x.begins;
            })
            go (no k) (inl a) = inl (all_cons k a)
            go (yes q) (inl a) = inr (record { event = e; before = h; at = none_later; begins = q })

        at : (¬ MayQuiet p (λ e. ¬ BeginsInc p f v e) n) → (h : History) → Completed p n h
            → All (λ e. ¬ BeginsInc p f v e) h ⊎ Begun h
            → Incondition p f v h
        at k h x (inl a) = absurd (k (record { history = h; completed = x; holds = a }))
        at k h x (inr y) = begun_incondition y
