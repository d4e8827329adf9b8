-- A pair clobbers: prefixes of the two children, one after the other, after what stands before them.
use Rattle.runs.proofs.Base.{◌≡◌, ◌∙◌, ◌⊎◌, inl, inr, Bool, not, some, none, [], ◌∷◌, ◌++◌, append-nil, ℕ}
use Rattle.runs.specs.Plan.{all_of, pre, inc, post, Plan, Child, Under, Before, direct, chain, Unordered, deeper}
use Rattle.runs.specs.WellFormed.{WellFormed}
use Rattle.runs.specs.Execution.{Event, start, finish, History, node_of, Execution, asserts, last_asserted}
use Rattle.runs.specs.Summary.{Clobbers, precondition, incondition, Clobbered, MayClobber, May, ExternalPre}
use Rattle.runs.specs.Summary.{ExternalPost}
use Rattle.runs.specs.Pairs.{TaskWith}
use Rattle.runs.proofs.Plan.{one_branch, before_irrefl, dec_before}
use Rattle.runs.specs.Classes.{Unasserted, Asserts, PreOn, MayMeet, here}
use Rattle.runs.proofs.Execution.{after_same, earlier_append, enabled_under, execution_tail, execution_last}
use Rattle.runs.proofs.Execution.{earlier_execution, complete_stays, extend, running_moved, moved_under}
use Rattle.runs.proofs.Summary.Concurrent.{Opened, opened, BothReady, both_ready, both_go, still_c, runs_c}
use Rattle.runs.proofs.Summary.Last.{ending, Ending, last_past, last_over}
use Rattle.runs.proofs.Summary.Postconditions.{last_some, some_last, may_post_is_last, avoid_is_quiet}
use Rattle.runs.proofs.Summary.Preconditions.{may_pre_is_meet}
use Rattle.runs.proofs.Summary.Reach.{reached}

module _ (p : Plan) (w : WellFormed p) where
  -- a child that may clobber, whatever the kind of its parent
  pub in_child_clobbers : {n : ℕ} (f : ℕ) (v : Bool) (c : ℕ) → Child p n c → MayClobber p f v c → MayClobber p f v n
  in_child_clobbers f v c hc (inr x) = inr (record {
    who = x.who;
    other = x.other;
    concurrent = deeper c hc x.concurrent;
    leaves = x.leaves;
    opposes = x.opposes;
  })
  in_child_clobbers {n} f v c hc (inl x) = build (opened p w hc)
    where
      build : Opened p w n c → MayClobber p f v n
      build o = inl (record {
        history = x.history ++ o.before;
        event = x.event;
        execution = o.execution (x.event ∷ x.history) x.execution;
        clobbers = at x.history x.event x.execution x.clobbers;
      })
        where
          at : (g : History) (e : Event) → Execution p c (e ∷ g) → Clobbers p f v g e
              → Clobbers p f v (g ++ o.before) e
          at g e fr (precondition nd sp) = precondition nd
              (last_some p f (last_over o.before (some_last p f (not v) g sp)))
          at g e fr (incondition t ne ho ru br) = incondition t ne ho
              (o.same g t (moved_under p w (execution_tail p w fr) t (running_moved ru)) ∙ ru) br

  module _ {n : ℕ} (kn : p.tree.kind n ≡ all_of) (f : ℕ) (v : Bool) where
    module _ (c d : ℕ) (hc : Child p n c) (hd : Child p n d) (un : Unordered p c d) where
      pre_unordered : (t : ℕ) (r₁ : History) (e : Event) (r₂ : History) → Execution p c (start t ∷ r₁)
          → Execution p d (e ∷ r₂)
          → p.conditions.sign pre t f ≡ some v → asserts p e f ≡ some (not v) → Clobbered p f v n
      pre_unordered t r₁ e r₂ f₁ f₂ nd wr = build (both_ready p w kn c d hc hd un)
        where
          build : BothReady p w kn c d → Clobbered p f v n
          build u = record {
            history = (e ∷ r₂) ++ (r₁ ++ u.h);
            event = start t;
            clobbers = precondition nd (last_some p f (here wr));
            execution = extend p w (start t ∷ []) ((e ∷ r₂) ++ (r₁ ++ u.h)) kn hc
                (λ a ha o. complete_stays p w (e ∷ r₂) (r₁ ++ u.h) two
                (complete_stays p w r₁ u.h (earlier_execution p w (earlier_append (e ∷ r₂) (r₁ ++ u.h)) two)
                (u.done_c a ha o))) two (rw (still_c p w kn c d hc hd un u r₁ (e ∷ r₂) (execution_tail p w f₁) f₂) f₁);
          }
            where
              two : Execution p n ((e ∷ r₂) ++ (r₁ ++ u.h))
              two = both_go p w kn c d hc hd un u r₁ (e ∷ r₂) (execution_tail p w f₁) f₂

      inc_unordered : (t : ℕ) (r₁ : History) (e : Event) (r₂ : History) → Execution p c (start t ∷ r₁)
          → Execution p d (e ∷ r₂)
          → p.conditions.sign inc t f ≡ some v → asserts p e f ≡ some (not v) → Clobbered p f v n
      inc_unordered t r₁ e r₂ f₁ f₂ ho wr = build (both_ready p w kn c d hc hd un)
        where
          ut : Under p c t
          ut = enabled_under p (execution_last p w f₁)

          ue : Under p d (node_of e)
          ue = enabled_under p (execution_last p w f₂)

          build : BothReady p w kn c d → Clobbered p f v n
          build u = record {
            history = r₂ ++ ((start t ∷ r₁) ++ u.h);
            event = e;
            execution = both_go p w kn c d hc hd un u (start t ∷ r₁) (e ∷ r₂) f₁ f₂;
            clobbers = incondition t (λ q. un.distinct (one_branch p w hc hd (rw (← q) at ut) ue)) ho
                (runs_c p w kn c d hc hd un u (start t ∷ r₁) r₂ f₁ (execution_tail p w f₂) t ut
                (after_same (start t) r₁)) wr;
          }

      -- a task under a child starts; an event of a task under a child asserts what the task holds or leaves
      assertion : {u : Bool} → TaskWith p inc post f u d
          → (e : Event) × (r : History) × Execution p d (e ∷ r) × (asserts p e f ≡ some u)
      assertion {u} m = go m.has
        where
          go : (p.conditions.sign inc m.who f ≡ some u) ⊎ (p.conditions.sign post m.who f ≡ some u)
              → (e : Event) × (r : History) × Execution p d (e ∷ r) × (asserts p e f ≡ some u)
          go (inl q) = let (r, fr) = reached p w hd.node (start m.who) m.is_task m.beneath in
              (start m.who, r, fr, q)
          go (inr q) = let (r, fr) = reached p w hd.node (finish m.who) m.is_task m.beneath in
              (finish m.who, r, fr, q)

      -- an unordered pair
      pub unordered_clobbers : TaskWith p pre inc f v c → TaskWith p inc post f (not v) d → Clobbered p f v n
      unordered_clobbers x y = let (r₁, f₁) = reached p w hc.node (start x.who) x.is_task x.beneath in
          let (e, r₂, f₂, wr) = assertion y in
          go r₁ e r₂ f₁ f₂ wr x.has
        where
          go : (r₁ : History) (e : Event) (r₂ : History) → Execution p c (start x.who ∷ r₁) → Execution p d (e ∷ r₂)
              → asserts p e f ≡ some (not v)
              → (p.conditions.sign pre x.who f ≡ some v) ⊎ (p.conditions.sign inc x.who f ≡ some v)
              → Clobbered p f v n
          go r₁ e r₂ f₁ f₂ wr (inl q) = pre_unordered x.who r₁ e r₂ f₁ f₂ q wr
          go r₁ e r₂ f₁ f₂ wr (inr q) = inc_unordered x.who r₁ e r₂ f₁ f₂ q wr

    -- a pair in order: what stands before c is run to its end so that the opposite is asserted last, then c comes to
    -- its precondition
    pub passed_on_clobbers : (c d : ℕ) → Child p n c → Child p n d → Before p d c → May p d (ExternalPost p f (not v))
        → May p c (ExternalPre p f v)
        → ((b : ℕ) → Child p n b → Before p d b → Before p b c → May p b (λ h. last_asserted p h f ≡ none))
        → Clobbered p f v n
    passed_on_clobbers c d hc hd dc lv mn between = build ((may_pre_is_meet p w f v hc.node).0 mn)
        (ending p w (Unasserted p f) (Asserts p f (not v)) kn (λ a. Before p a c) (λ a. dec_before p w a c)
        (λ a b q o. chain o q) d hd dc
        ((may_post_is_last p f (not v)).0 lv) (λ b hb q₂ q₁. (avoid_is_quiet p f).0 (between b hb q₁ q₂)))
      where
        build : MayMeet p (Unasserted p f) (PreOn p f v) c
            → Ending p w (Unasserted p f) (Asserts p f (not v)) n (λ a. Before p a c) → Clobbered p f v n
        build m s = record {
          history = m.before ++ s.history;
          event = m.event;
          clobbers = precondition m.hit (last_some p f (last_past m.quiet s.is));
          execution = extend p w (m.event ∷ m.before) s.history kn hc (λ a ha o. s.got a ha (direct o))
              s.execution
              (rw (s.kept c hc (before_irrefl p w), append-nil (m.event ∷ m.before)) m.execution);
        }
