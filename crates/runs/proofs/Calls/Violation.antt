-- Refusals 21, 22 and 26 of a call after an execution of the root: a CLEAR plan has none, and what makes a plan not
-- CLEAR is one.
use Rattle.runs.proofs.Base.{◌≡◌, refl, sym, ap, ◌∙◌, ◌≢◌, ◌⊎◌, inl, inr, Bool, true, false, not, Option, none}
use Rattle.runs.proofs.Base.{some, Option·getD, [], ◌∷◌, Among, ℕ}
use Rattle.runs.specs.Plan.{post, Plan}
use Rattle.runs.specs.WellFormed.{WellFormed}
use Rattle.runs.specs.Execution.{running, State, Event, finish, History, status_after, Enabled, Execution}
use Rattle.runs.specs.Execution.{one_more, last_asserted}
use Rattle.runs.specs.Summary.{Clobbers, precondition, incondition}
use Rattle.runs.specs.Verdict.{Clear}
use Rattle.runs.specs.Calls.{Call, one, together, finishes, SomeOf, NotRising, World, counted, numbered}
use Rattle.runs.specs.Calls.{happen_all, PreUnmet, IncBroken, PostOpposed}
use Rattle.runs.proofs.Reflect.{clash, decided, dec_or}
use Rattle.runs.proofs.Execution.{execution_tail, execution_last, earlier_execution, finish_runs, running_finish}
use Rattle.runs.proofs.Summary.{unasserted_all, may_pre_is_meet, AtOnce, at_once_concurrent, concurrent_at_once}
use Rattle.runs.proofs.Verdict.Exact.{MayFail}
use Rattle.runs.proofs.Calls.Listed.{TwoOf, two_of}
use Rattle.runs.proofs.Calls.Reflect.{r_inc_broken, r_pre_unmet}
use Rattle.runs.proofs.Calls.Together.{broken_unlisted}

-- a flag after a history, F its value at the start
unfoldable pub flag_after : Plan → (ℕ → Bool) → History → ℕ → Bool
flag_after p F h f = Option·getD (last_asserted p h f) (F f)

-- the starts of a history, and the ordinals that they took
unfoldable pub starts_after : History → ℕ
starts_after [] = 0
starts_after (e ∷ h) = counted (starts_after h) e

unfoldable pub ordinal_after : History → ℕ → ℕ
ordinal_after [] x = 0
ordinal_after (e ∷ h) x = numbered (starts_after h) (ordinal_after h) e x

abbrev pub world_after : Plan → (ℕ → Bool) → History → World
world_after p F h =
    record { status = status_after h; flag = flag_after p F h; starts = starts_after h; ordinal = ordinal_after h }

-- 21 or 22 applies to the event
abbrev pub Violates : Plan → World → Event → Type 0
Violates p a e = PreUnmet p a.flag e ⊎ IncBroken p a.status e

-- 17 to 20, 25 and 27 do not apply to the call; 21, 22 or 26 applies
abbrev pub EnabledCall : Plan → State → Call → Type 0
EnabledCall p s (one e) = Enabled p 0 s e
EnabledCall p s (together ts) = (¬ NotRising ts) × ((t : ℕ) → Among t ts → Enabled p 0 s (finish t))

abbrev pub ViolatesCall : Plan → World → Call → Type 0
ViolatesCall p a (one e) = Violates p a e
ViolatesCall p a (together ts) = PostOpposed p ts ⊎ SomeOf ts (λ t. IncBroken p (happen_all p a (finishes ts)).status
    (finish t))

-- a call to which 21, 22 or 26 applies, enabled after an execution of the root
pub record Violation (p : Plan) (F : ℕ → Bool) : Type 0 where
  pub history : History
  pub call : Call
  pub execution : Execution p 0 history
  pub enabled : EnabledCall p (status_after history) call
  pub violates : ViolatesCall p (world_after p F history) call

-- tasks that leave a flag opposite ways are two
pub opposed_differ : (p : Plan) (f t u : ℕ) (v : Bool) → p.conditions.sign post t f ≡ some v
    → p.conditions.sign post u f ≡ some (not v) → t ≢ u
opposed_differ p f t u true q z e = clash cc
opposed_differ p f t u false q z e = clash cc

module _ (p : Plan) (F : ℕ → Bool) where
  pub flag_last : (h : History) (f : ℕ) (u : Bool) → last_asserted p h f ≡ some u → flag_after p F h f ≡ u
  unfolding flag_after
  flag_last h f u q = rw q

  pub flag_none : (h : History) (f : ℕ) → last_asserted p h f ≡ none → flag_after p F h f ≡ F f
  unfolding flag_after
  flag_none h f q = rw q

  module _ (w : WellFormed p) where
    pub clear_no_violation : Clear p F → ¬ Violation p F
    clear_no_violation c x = go x.history x.call x.execution x.enabled x.violates
      where
        unmet : (h : History) (e : Event) → Execution p 0 (e ∷ h)
            → (u : PreUnmet p (flag_after p F h) e) (o : Option Bool) → last_asserted p h u.on ≡ o → ⊥
        unmet h e fr u none q = c.no_pre u.on u.sign (sym (flag_none h u.on q) ∙ u.unmet)
            ((may_pre_is_meet p w u.on u.sign w.root_node).1
            (record { event = e; before = h; execution = fr; hit = u.needs; quiet = unasserted_all p u.on h q }))
        unmet h e fr u (some b) q = c.no_clobber u.on u.sign (inl (record {
          history = h;
          event = e;
          execution = fr;
          clobbers = precondition u.needs (q ∙ ap some (sym (flag_last h u.on b q) ∙ u.unmet));
        }))

        by_event : (h : History) (e : Event) → Execution p 0 (e ∷ h) → Violates p (world_after p F h) e → ⊥
        by_event h e fr (inl u) = unmet h e fr u (last_asserted p h u.on) refl
        by_event h e fr (inr b) = c.no_clobber b.on b.sign (inl (record {
          history = h;
          event = e;
          execution = fr;
          clobbers = incondition b.who b.another b.holds b.runs b.breaks;
        }))

        -- listed tasks run at once; a hold that several finishes break, one of them breaks by itself
        go : (h : History) (d : Call) → Execution p 0 h → EnabledCall p (status_after h) d
            → ViolatesCall p (world_after p F h) d → ⊥
        go h (one e) f m b = by_event h e (one_more f m) b
        go h (together ts) f (r, m) (inl b) = c.no_clobber b.on b.sign (inr (record {
          who = b.who;
          other = b.other;
          concurrent = at_once_concurrent p w
              (opposed_differ p b.on b.who b.other b.sign b.leaves b.opposes) 0 w.root_node
              (record {
                history = h;
                execution = f;
                runs = finish_runs (m b.who b.listed);
                runs_too = finish_runs (m b.other b.other_listed);
              });
          leaves = b.leaves;
          opposes = b.opposes;
        }))
        go h (together ts) f (r, m) (inr x) = let (t, i, b) = (broken_unlisted p (world_after p F h) ts).0 x in
            by_event h (finish t) (one_more f (m t i)) (inr b.0)

    -- a literal that may fail does so in a violation
    pub may_fail_violates : (f : ℕ) (v : Bool) → MayFail p F f v → Violation p F
    may_fail_violates f v (inl (inl x)) = record {
      history = x.history;
      call = one x.event;
      execution = execution_tail p w x.execution;
      enabled = execution_last p w x.execution;
      violates = at x.clobbers;
    }
      where
        at : {h : History} {e : Event} → Clobbers p f v h e → Violates p (world_after p F h) e
        at {h} {e} (precondition nd sp) =
            inl (record { on = f; sign = v; needs = nd; unmet = flag_last h f (not v) sp })
        at {h} {e} (incondition t ne ho ru br) =
            inr (record { who = t; on = f; sign = v; another = ne; runs = ru; holds = ho; breaks = br })
    may_fail_violates f v (inl (inr x)) = build
        (two_of x.who x.other (opposed_differ p f x.who x.other v x.leaves x.opposes))
        (concurrent_at_once p w (w.on_task post x.who f v x.leaves).1
        (w.on_task post x.other f (not v) x.opposes).1 x.concurrent)
      where
        build : TwoOf x.who x.other → AtOnce p 0 x.who x.other → Violation p F
        build l a = record {
          history = a.history;
          call = together l.list;
          execution = a.execution;
          enabled = (l.rises, λ t i. running_finish p w a.execution t (runs t (l.no_more t i)));
          violates = inl (record {
            who = x.who;
            other = x.other;
            listed = l.has_t;
            other_listed = l.has_u;
            on = f;
            sign = v;
            leaves = x.leaves;
            opposes = x.opposes;
          });
        }
          where
            runs : (t : ℕ) → (t ≡ x.who) ⊎ (t ≡ x.other) → status_after a.history t ≡ running
            runs t (inl q) = rw q a.runs
            runs t (inr q) = rw q a.runs_too
    may_fail_violates f v (inr (q, m)) =
        let fr : Execution p 0 (m.holds.event ∷ m.holds.before) =
        earlier_execution p w m.holds.at m.completed.execution in
        record {
          history = m.holds.before;
          call = one m.holds.event;
          execution = execution_tail p w fr;
          enabled = execution_last p w fr;
          violates = inl (record {
            on = f;
            sign = v;
            needs = m.holds.needs;
            unmet = flag_none m.holds.before f m.holds.unasserted ∙ q;
          });
        }

    pub dec_violates : (a : World) (e : Event) → Dec (Violates p a e)
    dec_violates a e = dec_or (decided (r_pre_unmet p w a.flag e)) (decided (r_inc_broken p w a.status e))
