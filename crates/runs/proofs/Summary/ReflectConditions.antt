-- The tests for quiet, meet and last reflect them; and so the tests for the conditions reflect the six marks.
use Rattle.runs.proofs.Base.{◌≡◌, Iff·symm, Bool, not, none, ℕ, zero, suc, ◌+◌, ◌≤◌, arith}
use Rattle.runs.specs.Tests.{implies}
use Rattle.runs.specs.Plan.{Plan, Node, Child, Before}
use Rattle.runs.specs.WellFormed.{WellFormed}
use Rattle.runs.specs.Execution.{Event, skip, last_asserted}
use Rattle.runs.specs.Summary.{May, Must, ExternalPre, ExternalPost, Incondition}
use Rattle.runs.specs.Model.Marks.{quiet_in, meet_in, last_in, quiet_b, meet_b, last_b, avoid_b, may_pre_b, must_pre_b}
use Rattle.runs.specs.Model.Marks.{may_post_b, must_post_b, may_inc_b}
use Rattle.runs.specs.Model.Marks.{must_inc_b}
use Rattle.runs.specs.Model.Trees.{every_child_b}
use Rattle.runs.proofs.Reflect.{Reflects, r_map, r_both, r_either, r_implies, r_negate, r_true}
use Rattle.runs.proofs.Plan.{child_lt, before_child, r_by_kind, r_some_child, r_every_child, r_before}
use Rattle.runs.specs.Classes.{All, Anything, MayQuiet, MayMeet, LastIs, MayLast}
use Rattle.runs.proofs.Summary.Events.{r_unasserted, r_asserts, r_pre, r_begins_inc, r_neutral, r_covers}
use Rattle.runs.proofs.Summary.Inconditions.{may_inc_is_meet, must_inc_is}
use Rattle.runs.proofs.Summary.Last.{last_task, last_skip, last_all}
use Rattle.runs.proofs.Summary.MayMust.{may_any, may_optional}
use Rattle.runs.proofs.Summary.Meet.{meet_task, meet_any, meet_optional, meet_all}
use Rattle.runs.proofs.Summary.Postconditions.{avoid_is_quiet, may_post_is_last, must_post_is}
use Rattle.runs.proofs.Summary.Preconditions.{may_pre_is_meet, must_pre_is}
use Rattle.runs.proofs.Summary.Quiet.{quiet_task, quiet_skip, quiet_all}

module _ (p : Plan) (w : WellFormed p) where
  module _ (Q : Event → Type 0) (q : Event → Bool) (rq : (e : Event) → Reflects (q e) (Q e)) where
    r_quiet_in : (k n : ℕ) → Node p n → p.tree.size ≤ n + k → Reflects (quiet_in p q k n) (MayQuiet p Q n)
    unfolding quiet_in
    r_quiet_in zero n l b = absurd (omega (arith, w.node_below n l))
    r_quiet_in (suc k) n l b = r_by_kind (p.tree.kind n) _ _ _ _
        (λ kn. r_map (Iff·symm (quiet_task p w Q kn)) (r_both _ _ (rq _) (rq _)))
        (λ kn. r_map (Iff·symm (quiet_all p w Q kn))
        (r_every_child p w (MayQuiet p Q) _ (λ c hc. r_quiet_in k c hc.node (omega (arith, child_lt p w hc)))))
        (λ kn. r_map (Iff·symm (may_any p w (All Q) kn))
        (r_some_child p w (MayQuiet p Q) _ (λ c hc. r_quiet_in k c hc.node (omega (arith, child_lt p w hc)))))
        (λ kn. r_map (Iff·symm (may_optional p w (All Q) kn)) (r_either _ _
        (r_some_child p w (MayQuiet p Q) _ (λ c hc. r_quiet_in k c hc.node (omega (arith, child_lt p w hc))))
        (r_map (Iff·symm (quiet_skip p w Q n)) (rq (skip n)))))

    pub r_quiet : (n : ℕ) → Node p n → Reflects (quiet_b p q n) (MayQuiet p Q n)
    unfolding quiet_b
    r_quiet n l = r_quiet_in p.tree.size n l (omega arith)

    -- the children before c, or after it, are quiet
    r_others : (k n : ℕ) (P : ℕ → Type 0) (t : ℕ → Bool) → ((a : ℕ) → Reflects (t a) (P a)) → p.tree.size ≤ n + suc k
        → Reflects (every_child_b p n (λ a. implies (t a) (λ u. quiet_in p q k a)))
        ((a : ℕ) → Child p n a → P a → MayQuiet p Q a)
    r_others k n P t r b = r_every_child p w (λ a. P a → MayQuiet p Q a) _
        (λ a ha. r_implies _ _ (r a) (λ x. r_quiet_in k a ha.node (omega (arith, child_lt p w ha))))

    module _ (H : Event → Type 0) (m : Event → Bool) (rm : (e : Event) → Reflects (m e) (H e)) where
      r_meet_in : (k n : ℕ) → Node p n → p.tree.size ≤ n + k → Reflects (meet_in p q m k n) (MayMeet p Q H n)
      unfolding meet_in
      r_meet_in zero n l b = absurd (omega (arith, w.node_below n l))
      r_meet_in (suc k) n l b = r_by_kind (p.tree.kind n) _ _ _ _
          (λ kn. r_map (Iff·symm (meet_task p w Q H kn)) (r_either _ _ (rm _) (r_both _ _ (rq _) (rm _))))
          (λ kn. let e = meet_all p w Q H kn in
          r_map (
            λ x. e.1 (x.0, x.1, x.2.0, λ a z. x.2.1 a (before_child p w x.1 z) z),
            λ y. let x = e.0 y in
                (x.0, x.1, (x.2, λ a ha z. x.3 a z)),
          )
          (r_some_child p w (λ c. MayMeet p Q H c × ((a : ℕ) → Child p n a → Before p a c → MayQuiet p Q a)) _
          (λ c hc. r_both _ _ (r_meet_in k c hc.node (omega (arith, child_lt p w hc)))
          (r_others k n (λ a. Before p a c) _ (λ a. r_before p w a c) b))))
          (λ kn. r_map (Iff·symm (meet_any p w Q H kn))
          (r_some_child p w (MayMeet p Q H) _ (λ c hc. r_meet_in k c hc.node (omega (arith, child_lt p w hc)))))
          (λ kn. r_map (Iff·symm (meet_optional p w Q H kn)) (r_either _ _
          (r_some_child p w (MayMeet p Q H) _ (λ c hc. r_meet_in k c hc.node (omega (arith, child_lt p w hc))))
          (rm (skip n))))

      pub r_meet : (n : ℕ) → Node p n → Reflects (meet_b p q m n) (MayMeet p Q H n)
      unfolding meet_b
      r_meet n l = r_meet_in p.tree.size n l (omega arith)

      r_last_in : (k n : ℕ) → Node p n → p.tree.size ≤ n + k → Reflects (last_in p q m k n) (MayLast p Q H n)
      unfolding last_in
      r_last_in zero n l b = absurd (omega (arith, w.node_below n l))
      r_last_in (suc k) n l b = r_by_kind (p.tree.kind n) _ _ _ _
          (λ kn. r_map (Iff·symm (last_task p w Q H kn)) (r_either _ _ (rm _) (r_both _ _ (rq _) (rm _))))
          (λ kn. let e = last_all p w Q H kn in
          r_map (λ x. e.1 (x.0, x.1, x.2.0, x.2.1), λ y. let x = e.0 y in (x.0, x.1, (x.2, x.3)))
          (r_some_child p w (λ c. MayLast p Q H c × ((a : ℕ) → Child p n a → Before p c a → MayQuiet p Q a)) _
          (λ c hc. r_both _ _ (r_last_in k c hc.node (omega (arith, child_lt p w hc)))
          (r_others k n (Before p c) _ (r_before p w c) b))))
          (λ kn. r_map (Iff·symm (may_any p w (LastIs Q H) kn))
          (r_some_child p w (MayLast p Q H) _ (λ c hc. r_last_in k c hc.node (omega (arith, child_lt p w hc)))))
          (λ kn. r_map (Iff·symm (may_optional p w (LastIs Q H) kn)) (r_either _ _
          (r_some_child p w (MayLast p Q H) _ (λ c hc. r_last_in k c hc.node (omega (arith, child_lt p w hc))))
          (r_map (Iff·symm (last_skip p w Q H n)) (rm (skip n)))))

      pub r_last : (n : ℕ) → Node p n → Reflects (last_b p q m n) (MayLast p Q H n)
      unfolding last_b
      r_last n l = r_last_in p.tree.size n l (omega arith)

  module _ (n f : ℕ) (l : Node p n) where
    pub r_avoid : Reflects (avoid_b p n f) (May p n (λ h. last_asserted p h f ≡ none))
    unfolding avoid_b
    r_avoid = r_map (Iff·symm (avoid_is_quiet p f)) (r_quiet _ _ (r_unasserted p f) n l)

    module _ (v : Bool) where
      pub r_may_pre : Reflects (may_pre_b p n f v) (May p n (ExternalPre p f v))
      unfolding may_pre_b
      r_may_pre = r_map (Iff·symm (may_pre_is_meet p w f v l)) (r_meet _ _ (r_unasserted p f) _ _ (r_pre p f v) n l)

      pub r_must_pre : Reflects (must_pre_b p n f v) (Must p n (ExternalPre p f v))
      unfolding must_pre_b
      r_must_pre = r_map (Iff·symm (must_pre_is p w f v l)) (r_both _ _ (r_negate _ (r_quiet _ _ (r_neutral p f v) n l))
          (r_negate _ (r_meet _ _ (r_neutral p f v) _ _ (r_covers p f v) n l)))

      pub r_may_post : Reflects (may_post_b p n f v) (May p n (ExternalPost p f v))
      unfolding may_post_b
      r_may_post = r_map (Iff·symm (may_post_is_last p f v)) (r_last _ _ (r_unasserted p f) _ _ (r_asserts p f v) n l)

      pub r_may_inc : Reflects (may_inc_b p n f v) (May p n (Incondition p f v))
      unfolding may_inc_b
      r_may_inc = r_map (Iff·symm (may_inc_is_meet p f v w l))
          (r_meet Anything _ (λ e. r_true) _ _ (r_begins_inc p f v) n l)

      pub r_must_inc : Reflects (must_inc_b p n f v) (Must p n (Incondition p f v))
      unfolding must_inc_b
      r_must_inc = r_map (Iff·symm (must_inc_is p f v w))
          (r_negate _ (r_quiet _ _ (λ e. r_negate _ (r_begins_inc p f v e)) n l))

    pub r_must_post : (v : Bool) → Reflects (must_post_b p n f v) (Must p n (ExternalPost p f v))
    unfolding must_post_b
    r_must_post v = r_map (Iff·symm (must_post_is p f v))
        (r_both _ _ (r_negate _ r_avoid) (r_negate _ (r_may_post (not v))))
