-- The tests for the refusals reflect the rows of 01's and 02's table, on any states.
use Rattle.runs.proofs.Base.{◌≡◌, refl, sym, ap, ◌∙◌, ◌≢◌, ◌⊎◌, inl, inr, Bool, not, Option, none, some, List, ℕ}
use Rattle.runs.proofs.Base.{zero, suc, ◌+◌, ◌<◌, ◌≤◌, arith, T}
use Rattle.runs.specs.Plan.{any_of, optional, Picks, Moves, inc, post, Plan, Node, Child, Under}
use Rattle.runs.specs.WellFormed.{WellFormed}
use Rattle.runs.specs.Execution.{Status, waiting, running, done, State, Event, start, finish, skip, node_of}
use Rattle.runs.specs.Execution.{task_done, all_done, any_done, skip_done}
use Rattle.runs.specs.Execution.{Complete, Begun, Rival, by_branch, by_skip, pre_of, asserts}
use Rattle.runs.specs.Calls.{Absent}
use Rattle.runs.specs.Calls.{Call, one, together, SomeOf, World, Refusal, no_task}
use Rattle.runs.specs.Calls.{wrong_status, branch_begun, order_open, pre_unmet, inc_broken, not_rising}
use Rattle.runs.specs.Calls.{post_opposed, no_optional, Task, Optional, WrongStatus, BranchBegun, OrderOpen}
use Rattle.runs.specs.Calls.{PreUnmet, IncBroken, PostOpposed, Applies}
use Rattle.runs.specs.Model.Monitor.{absent_b}
use Rattle.runs.specs.Model.Monitor.{status_b, opposite_b, task_b, optional_b, complete_in, complete_b, begun_b}
use Rattle.runs.specs.Model.Monitor.{rival_b}
use Rattle.runs.specs.Model.Monitor.{wrong_status_b, branch_begun_b}
use Rattle.runs.specs.Model.Monitor.{order_open_b, pre_unmet_b, inc_broken_b, post_opposed_b, applies_b}
use Rattle.runs.proofs.Reflect.{clash, not_not, Reflects, r_map, r_false, r_both, r_either, r_guarded, r_negate}
use Rattle.runs.proofs.Reflect.{r_any, r_T, r_decide, r_eq, r_some}
use Rattle.runs.proofs.Plan.{child_lt, r_kind, r_picks, r_moves, r_by_kind, r_some_child, r_every_child}
use Rattle.runs.proofs.Plan.{r_some_under, r_under}
use Rattle.runs.proofs.Execution.{picks_any, picks_optional, complete_task, complete_all, PickDone, branch_done}
use Rattle.runs.proofs.Execution.{group_skipped, complete_pick}
use Rattle.runs.proofs.Summary.{pre_flag}
use Rattle.runs.proofs.Calls.Listed.{r_some_of, r_not_rising}

pub r_status : (s r : Status) → Reflects (status_b s r) (s ≡ r)
unfolding status_b
r_status s r = r_decide _

r_opposite : (o x : Option Bool) → Reflects (opposite_b o x) ((v : Bool) × (o ≡ some v) × (x ≡ some (not v)))
unfolding opposite_b
r_opposite none x = record { to = λ t. absurd t; from = λ y. no_sign y.1 }
  where
    no_sign : {v : Bool} → none ≡ some v → ⊥
    no_sign q = clash cc
r_opposite (some u) x = r_map (λ q. (u, refl, q), λ y. y.2 ∙ ap (λ b. some (not b)) (sym (same y.1)))
    (r_some x (not u))
  where
    same : {v : Bool} → some u ≡ some v → u ≡ v
    same q = cc

module _ (p : Plan) where
  pub r_task : (t : ℕ) → Reflects (task_b p t) (Task p t)
  unfolding task_b
  r_task t = r_map (λ x. record { node = x.0; is_task = x.1 }, λ x. (x.node, x.is_task))
      (r_both _ _ (r_T _) (r_kind _ _))

  pub r_optional : (g : ℕ) → Reflects (optional_b p g) (Optional p g)
  unfolding optional_b
  r_optional g = r_map (λ x. record { node = x.0; is_optional = x.1 }, λ x. (x.node, x.is_optional))
      (r_both _ _ (r_T _) (r_kind _ _))

  pub r_absent : (t : ℕ) → Reflects (absent_b p t) (Absent p t)
  unfolding absent_b
  r_absent t = r_negate _ (r_T _)

module _ (p : Plan) (w : WellFormed p) where
  module _ (s : State) where
    r_complete_in : (k n : ℕ) → Node p n → p.tree.size ≤ n + k → Reflects (complete_in p s k n) (Complete p s n)
    unfolding complete_in
    r_complete_in zero n l b = absurd (omega (arith, w.node_below n l))
    r_complete_in (suc k) n l b = r_by_kind (p.tree.kind n) _ _ _ _
        (λ kn. r_map (task_done kn, complete_task p kn) (r_status _ _))
        (λ kn. r_map (all_done kn, complete_all p kn)
        (r_every_child p w (Complete p s) _ (λ c hc. r_complete_in k c hc.node (omega (arith, child_lt p w hc)))))
        (λ kn. r_map (
          λ x. any_done x.0 (picks_any kn) x.1 x.2,
          λ d. through kn (complete_pick p (picks_any kn) d),
        )
        (r_some_child p w (Complete p s) _ (λ c hc. r_complete_in k c hc.node (omega (arith, child_lt p w hc)))))
        (λ kn. r_map (complete_so kn, λ d. way (complete_pick p (picks_optional kn) d)) (r_either _ _
        (r_some_child p w (Complete p s) _ (λ c hc. r_complete_in k c hc.node (omega (arith, child_lt p w hc))))
        (r_status _ _)))
      where
        through : p.tree.kind n ≡ any_of → PickDone p s n → (c : ℕ) × Child p n c × Complete p s c
        through kn (branch_done c hc x) = (c, hc, x)
        through kn (group_skipped k x) = clash cc

        Way : Type 0
        Way = ((c : ℕ) × Child p n c × Complete p s c) ⊎ (s n ≡ done)

        way : PickDone p s n → Way
        way (branch_done c hc x) = inl (c, hc, x)
        way (group_skipped k x) = inr x

        complete_so : p.tree.kind n ≡ optional → Way → Complete p s n
        complete_so kn (inl (c, hc, x)) = any_done c (picks_optional kn) hc x
        complete_so kn (inr x) = skip_done kn x

    pub r_complete : (n : ℕ) → Node p n → Reflects (complete_b p s n) (Complete p s n)
    unfolding complete_b
    r_complete n l = r_complete_in p.tree.size n l (omega arith)

    pub r_begun : (b : ℕ) → Node p b → Reflects (begun_b p s b) (Begun p s b)
    unfolding begun_b
    r_begun b l = r_map (
      λ x. record { who = x.0; beneath = x.1; moves = x.2.0; begun = x.2.1 },
      λ x. (x.who, x.beneath, (x.moves, x.begun)),
    ) (r_some_under p w (λ t. Moves (p.tree.kind t) × (s t ≢ waiting)) _ l
        (λ t. r_both _ _ (r_moves _) (r_negate _ (r_status _ _))))

    r_rival : (g b : ℕ) → Reflects (rival_b p s g b) (Rival p s g b)
    unfolding rival_b
    r_rival g b = r_map (to, from) (r_either _ _
        (r_some_child p w (λ c. (c ≢ b) × Begun p s c) _
        (λ c hc. r_both _ _ (r_negate _ (r_eq _ _)) (r_begun c hc.node)))
        (r_both _ _ (r_kind _ _) (r_status _ _)))
      where
        Other : Type 0
        Other = ((c : ℕ) × Child p g c × ((c ≢ b) × Begun p s c)) ⊎ ((p.tree.kind g ≡ optional) × (s g ≡ done))

        to : Other → Rival p s g b
        to (inl (c, hc, (ne, t))) = by_branch c hc ne t
        to (inr (k, d)) = by_skip k d

        from : Rival p s g b → Other
        from (by_branch c hc ne t) = inl (c, hc, (ne, t))
        from (by_skip k d) = inr (k, d)

    pub r_wrong_status : (e : Event) → Reflects (wrong_status_b p s e) (WrongStatus p s e)
    unfolding wrong_status_b
    r_wrong_status (start t) = r_negate _ (r_status _ _)
    r_wrong_status (finish t) = r_either _ _ (r_absent p t) (r_negate _ (r_status _ _))
    r_wrong_status (skip g) =
        r_either _ _ (r_negate _ (r_status _ _)) (r_some_child p w (Begun p s) _ (λ c hc. r_begun c hc.node))

    pub r_branch_begun : (t : ℕ) → Reflects (branch_begun_b p s t) (BranchBegun p s t)
    unfolding branch_begun_b
    r_branch_begun t = r_map (to, from)
        (r_any (λ g. Picks (p.tree.kind g) × ((b : ℕ) × Child p g b × (Under p b t × Rival p s g b))) _ _
        (λ g. r_both _ _ (r_picks _) (r_some_child p w (λ b. Under p b t × Rival p s g b) _
        (λ b hb. r_both _ _ (r_under p w b t) (r_rival g b)))))
      where
        to : (g : ℕ) × (g < p.tree.size)
            × (Picks (p.tree.kind g) × ((b : ℕ) × Child p g b × (Under p b t × Rival p s g b))) → BranchBegun p s t
        to (g, l, (k, (b, hb, (u, r)))) = record { group = g; own = b; picks = k; own_child = hb; above = u; rival = r }

        from : BranchBegun p s t → (g : ℕ) × (g < p.tree.size)
            × (Picks (p.tree.kind g) × ((b : ℕ) × Child p g b × (Under p b t × Rival p s g b)))
        from x = (
          x.group,
          omega (arith, child_lt p w x.own_child, w.node_below x.own x.own_child.node),
          (x.picks, (x.own, x.own_child, (x.above, x.rival))),
        )

    pub r_order_open : (t : ℕ) → Reflects (order_open_b p s t) (OrderOpen p s t)
    unfolding order_open_b
    r_order_open t = r_map (to, from)
        (r_any (λ a. (b : ℕ) × (b < p.tree.size) × Open a b) _ _ (λ a. r_any (Open a) _ _
        (λ b. r_guarded _ _ (r_T _) (λ o. r_both _ _ (r_under p w b t)
        (r_negate _ (r_complete a (w.order_group a b o).2.node))))))
      where
        Open : ℕ → ℕ → Type 0
        Open a b = T (p.order a b) × (Under p b t × (¬ Complete p s a))

        to : (a : ℕ) × (a < p.tree.size) × ((b : ℕ) × (b < p.tree.size) × Open a b) → OrderOpen p s t
        to (a, la, (b, lb, (o, (u, k)))) = record { earlier = a; later = b; ordered = o; above = u; incomplete = k }

        from : OrderOpen p s t → (a : ℕ) × (a < p.tree.size) × ((b : ℕ) × (b < p.tree.size) × Open a b)
        from x = let o = w.order_group x.earlier x.later x.ordered in (
          x.earlier,
          w.node_below x.earlier o.2.node,
          (x.later, w.node_below x.later o.3.node, (x.ordered, (x.above, x.incomplete))),
        )

    pub r_inc_broken : (e : Event) → Reflects (inc_broken_b p s e) (IncBroken p s e)
    unfolding inc_broken_b
    r_inc_broken e = r_map (to, from)
        (r_any (λ t. (node_of e ≢ t) × ((s t ≡ running) × ((f : ℕ) × (f < p.conditions.flags) × Breaks t f))) _ _
        (λ t. r_both _ _ (r_negate _ (r_eq _ _))
        (r_both _ _ (r_status _ _) (r_any (Breaks t) _ _ (λ f. r_opposite _ _)))))
      where
        Breaks : ℕ → ℕ → Type 0
        Breaks t f = (v : Bool) × (p.conditions.sign inc t f ≡ some v) × (asserts p e f ≡ some (not v))

        to : (t : ℕ) × (t < p.tree.size)
            × ((node_of e ≢ t) × ((s t ≡ running) × ((f : ℕ) × (f < p.conditions.flags) × Breaks t f)))
            → IncBroken p s e
        to (t, l, (ne, (ru, (f, lf, (v, ho, br))))) =
            record { who = t; on = f; sign = v; another = ne; runs = ru; holds = ho; breaks = br }

        from : IncBroken p s e → (t : ℕ) × (t < p.tree.size)
            × ((node_of e ≢ t) × ((s t ≡ running) × ((f : ℕ) × (f < p.conditions.flags) × Breaks t f)))
        from x = let o = w.on_task inc x.who x.on x.sign x.holds in
            (x.who, o.0, (x.another, (x.runs, (x.on, o.2, (x.sign, x.holds, x.breaks)))))

  pub r_pre_unmet : (flag : ℕ → Bool) (e : Event) → Reflects (pre_unmet_b p flag e) (PreUnmet p flag e)
  unfolding pre_unmet_b
  r_pre_unmet flag e = r_map (
    λ x. record { on = x.0; sign = not (flag x.0); needs = x.2; unmet = sym (not_not (flag x.0)) },
    λ x. (x.on, pre_flag p w e x.needs, x.needs ∙ ap some (sym (ap not x.unmet ∙ not_not x.sign))),
  ) (r_any (λ f. pre_of p.conditions e f ≡ some (not (flag f))) _ _ (λ f. r_some _ _))

  pub r_post_opposed : (ts : List ℕ) → Reflects (post_opposed_b p ts) (PostOpposed p ts)
  unfolding post_opposed_b
  r_post_opposed ts = r_map (to, from)
      (r_some_of (λ t. SomeOf ts (λ x. (f : ℕ) × (f < p.conditions.flags) × Opposes t x f))
      ts _ (λ t. r_some_of (λ x. (f : ℕ) × (f < p.conditions.flags) × Opposes t x f) ts _
      (λ x. r_any (Opposes t x) _ _ (λ f. r_opposite _ _))))
    where
      Opposes : ℕ → ℕ → ℕ → Type 0
      Opposes t x f = (v : Bool) × (p.conditions.sign post t f ≡ some v) × (p.conditions.sign post x f
          ≡ some (not v))

      to : SomeOf ts (λ t. SomeOf ts (λ x. (f : ℕ) × (f < p.conditions.flags) × Opposes t x f)) → PostOpposed p ts
      to (t, i, (x, j, (f, l, (v, q, z)))) = record {
        who = t;
        other = x;
        listed = i;
        other_listed = j;
        on = f;
        sign = v;
        leaves = q;
        opposes = z;
      }

      from : PostOpposed p ts → SomeOf ts (λ t. SomeOf ts (λ x. (f : ℕ) × (f < p.conditions.flags) × Opposes t x f))
      from x = let o = w.on_task post x.who x.on x.sign x.leaves in
          (x.who, x.listed, (x.other, x.other_listed, (x.on, o.2, (x.sign, x.leaves, x.opposes))))

-- each test is its row of the table
module _ (whole p : Plan) (w : WellFormed p) where
  pub r_applies : (a : World) (c : Call) (r : Refusal) → Reflects (applies_b whole p a c r) (Applies whole p a c r)
  unfolding applies_b
  r_applies a (one e) no_task = r_negate _ (r_task whole (node_of e))
  r_applies a (one e) wrong_status = r_wrong_status p w a.status e
  r_applies a (one e) branch_begun = r_either _ _ (r_absent p (node_of e)) (r_branch_begun p w a.status (node_of e))
  r_applies a (one e) order_open = r_order_open p w a.status (node_of e)
  r_applies a (one e) pre_unmet = r_pre_unmet p w a.flag e
  r_applies a (one e) inc_broken = r_inc_broken p w a.status e
  r_applies a (one e) no_optional = r_negate _ (r_optional whole (node_of e))
  r_applies a (one e) not_rising = r_false (λ x. x)
  r_applies a (one e) post_opposed = r_false (λ x. x)
  r_applies a (together ts) no_task = r_some_of _ ts _ (λ t. r_negate _ (r_task whole t))
  r_applies a (together ts) wrong_status = r_some_of _ ts _ (λ t. r_wrong_status p w a.status (finish t))
  r_applies a (together ts) branch_begun = r_false (λ x. x)
  r_applies a (together ts) order_open = r_false (λ x. x)
  r_applies a (together ts) pre_unmet = r_false (λ x. x)
  r_applies a (together ts) inc_broken = r_some_of _ ts _ (λ t. r_inc_broken p w _ (finish t))
  r_applies a (together ts) no_optional = r_false (λ x. x)
  r_applies a (together ts) not_rising = r_not_rising ts
  r_applies a (together ts) post_opposed = r_post_opposed p w ts
