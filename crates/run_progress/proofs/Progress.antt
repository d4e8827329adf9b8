-- Complete and begun by the counts of children. Assumes nothing.
use mathlib.Core.Path.{◌≡◌, refl, sym, ap, ◌∙◌}
use mathlib.Core.Logic.{◌⊎◌, inl, inr, ◌↔◌, by_cases, ◌≢◌}
use mathlib.Core.Bool.{Bool, true, false, not, ◌&&◌, ◌||◌, false≢true, true≢false}
use mathlib.Core.List.{List}
use Prim.Native.Nat.{ℕ, ◌<◌}
use native.Mathlib.Decide.{ℕ_discrete}
use native.Mathlib.Omega.{arith}
use lib.Dec.{T, eqb}
use Rattle.plan_format.specs.Format.{node_count, kind_of, is_kind}
use Rattle.plan_rules.specs.Rules.{is_child}
use Rattle.base.proofs.Booleans.{and_both, and_of, not_passed}
use Rattle.plan_check.specs.Meaning.{plan_of}
use Rattle.plan_check.proofs.Meaning.{kind_of_lem, kind_is, kind_task, kind_all_of}
use Rattle.plan_check.proofs.Nodes.{is_child_lem, child_test, is_node, node_is, plan_kind, kind_choice}
use Rattle.runs.specs.Plan.{task, Picks, itself, Child}
use Rattle.runs.specs.Execution.{task_done, all_done, any_done, skip_done, Complete, Begun, waiting, done}
use Rattle.runs.specs.Tests.{same_b, negate}
use Rattle.runs.specs.Model.Monitor.{complete_b, begun_b}
use Rattle.runs.proofs.Plan.Trees.{Branch, branch, child_under, under_trans}
use Rattle.runs.proofs.Execution.Completeness.{picks_moves, done_moved, complete_task, complete_all, PickDone}
use Rattle.runs.proofs.Execution.Completeness.{branch_done, group_skipped, complete_pick}
use Rattle.runs.proofs.Reflect.{Reflects, r_map, r_eq, r_negate, true_T, T_true, same_test}
use Rattle.runs.proofs.Calls.Reflect.{r_complete, r_begun}
use Rattle.run_starts.specs.Starts.{node_byte}
use Rattle.run_state.specs.State.{status_in}
use Rattle.run_state.specs.Inner.{state_refusal}
use Rattle.run_state.proofs.Passed.{well_formed, byte_is, shown_moves}
use Rattle.run_progress.specs.Progress.{counted_at, counted_child, children_counted}
use Rattle.run_progress.specs.declared.Tally.{Tally}
use Rattle.run_progress.specs.declared.Tally.TheVariants.{Ends}
use Rattle.run_progress.specs.declared.Tally.TheVariants as tallies
use Rattle.base.proofs.Count.{some_counted, counted_some}

-- one test or another
r_or : {x y : Bool} {A B : Type 0} → Reflects x A → Reflects y B → Reflects (x || y) (A ⊎ B)
r_or {x} {y} {A} {B} a b = record { to = λ t. to x y t a b; from = from x y a b }
  where
    to : (x y : Bool) → T (x || y) → Reflects x A → Reflects y B → A ⊎ B
    to true y t a b = inl (a.to tt)
    to false y t a b = inr (b.to t)

    from : (x y : Bool) → Reflects x A → Reflects y B → A ⊎ B → T (x || y)
    from true y a b h = tt
    from false y a b (inl h) = absurd (a.from h)
    from false y a b (inr h) = b.from h

passes : (x : Bool) → (not x ≡ true → ⊥) → T x
passes true h = tt
passes false h = absurd (h refl)

fails : (x : Bool) → not x ≡ true → T x → ⊥
fails true e t = false≢true e
fails false e t = t

zero_of : (x : ℕ) → ((x ≡ 0 → ⊥) → ⊥) → x ≡ 0
zero_of x h = by_cases (ℕ_discrete x 0) (λ e. e) (λ e. absurd (h e))

module _ (b s : List ℕ) (ok : state_refusal b s ≡ 0) (n : ℕ) (l : n < node_count b) where
  -- a counted child, and the child that makes a count
  counted_child_lem : (k : Tally) → (children_counted k b s n ≡ 0 → ⊥)
      → (c : ℕ) × Child (plan_of b) n c × (counted_at k b s n c ≡ true)
  unfolding children_counted counted_child
  counted_child_lem k h =
      let w = counted_some (node_count b) (λ c. is_child b n c && counted_at k b s n c) h in
      let x = and_both (is_child b n w.0) (counted_at k b s n w.0) w.2 in
      (w.0, is_child_lem b n w.0 x.0, x.1)

  child_counted : (k : Tally) (c : ℕ) → Child (plan_of b) n c → counted_at k b s n c ≡ true
      → children_counted k b s n ≡ 0
      → ⊥
  unfolding children_counted counted_child
  child_counted k c h e z =
      omega (
        arith,
        z,
        some_counted (node_count b) (λ c. is_child b n c && counted_at k b s n c) c (node_is b c h.node)
            (and_of (is_child b n c) (counted_at k b s n c) (child_test b n c h) e),
      )

  completes : (c : ℕ) → Child (plan_of b) n c
      → Reflects (complete_b (plan_of b) (status_in b s) c) (Complete (plan_of b) (status_in b s) c)
  completes c h = r_complete (plan_of b) (well_formed b s ok) (status_in b s) c h.node

  begins : (c : ℕ) → Child (plan_of b) n c
      → Reflects (begun_b (plan_of b) (status_in b s) c) (Begun (plan_of b) (status_in b s) c)
  begins c h = r_begun (plan_of b) (well_formed b s ok) (status_in b s) c h.node

  by_complete : (x : Bool) → Reflects x (Complete (plan_of b) (status_in b s) n)
      → x ≡ complete_b (plan_of b) (status_in b s) n
  by_complete x r = same_test x _ r (r_complete (plan_of b) (well_formed b s ok) (status_in b s) n (is_node b n l))

  by_begun : (x : Bool) → Reflects x (Begun (plan_of b) (status_in b s) n) → x ≡ begun_b (plan_of b) (status_in b s) n
  by_begun x r = same_test x _ r (r_begun (plan_of b) (well_formed b s ok) (status_in b s) n (is_node b n l))

  nonzero : (x : ℕ) → Reflects (not (eqb x 0)) (x ≢ 0)
  unfolding negate
  nonzero x = r_negate (eqb x 0) (r_eq x 0)

  pub all_complete : kind_of b n ≡ 1 → eqb (children_counted Ends b s n) 0 ≡ complete_b (plan_of b) (status_in b s) n
  unfolding counted_at same_b
  all_complete k =
      let kn = plan_kind b n ∙ kind_all_of (kind_of b n) k in
      let all : is_kind b n 1 ≡ true = kind_of_lem b n 1 l k in
      by_complete _
      (r_map (
        λ z. all_done kn (λ c h. (completes c h).to
            (passes (complete_b (plan_of b) (status_in b s) c) (λ y. child_counted Ends c h (rw all y) z))),
        λ x. zero_of (children_counted Ends b s n)
            (λ q. let w = counted_child_lem Ends q in
            fails (complete_b (plan_of b) (status_in b s) w.0) (rw all at w.2)
            ((completes w.0 w.1).from (complete_all (plan_of b) kn x w.0 w.1))),
      ) (r_eq (children_counted Ends b s n) 0))

  -- a child is complete, or the byte says done
  abbrev ended : Bool
  ended = not (eqb (children_counted Ends b s n) 0) || eqb (node_byte s n) 2

  -- a task has no children
  task_complete : kind_of b n ≡ 0 → ended ≡ complete_b (plan_of b) (status_in b s) n
  task_complete k =
      by_complete _ (r_map (to, λ x. inr ((byte_is b s ok n l done).1 (complete_task (plan_of b) kn x)))
      (r_or (nonzero (children_counted Ends b s n)) (r_eq (node_byte s n) 2)))
    where
      kn : (plan_of b).tree.kind n ≡ task
      kn = plan_kind b n ∙ kind_task (kind_of b n) k

      to : (children_counted Ends b s n ≢ 0) ⊎ (node_byte s n ≡ 2) → Complete (plan_of b) (status_in b s) n
      to (inl z) = let (c, h, q) = counted_child_lem Ends z in
          absurd ((well_formed b s ok).parent_group c h.not_root h.node (ap (plan_of b).tree.kind h.up ∙ kn))
      to (inr z) = task_done kn ((byte_is b s ok n l done).0 z)

  -- a group of which one branch is taken is skipped where its byte says so
  choice_complete : Picks ((plan_of b).tree.kind n) → ended ≡ complete_b (plan_of b) (status_in b s) n
  unfolding counted_at same_b
  choice_complete m =
      by_complete _ (r_map (to, λ x. from (complete_pick (plan_of b) m x))
      (r_or (nonzero (children_counted Ends b s n)) (r_eq (node_byte s n) 2)))
    where
      no : is_kind b n 1 ≡ false
      no = not_passed _ (λ y. rw (plan_kind b n ∙ kind_all_of (kind_of b n) (kind_is b n 1 y).1) at m)

      to : (children_counted Ends b s n ≢ 0) ⊎ (node_byte s n ≡ 2) → Complete (plan_of b) (status_in b s) n
      to (inl z) = let w = counted_child_lem Ends z in
          any_done w.0 m w.1 ((completes w.0 w.1).to
          (passes (complete_b (plan_of b) (status_in b s) w.0) (λ y. true≢false (sym w.2 ∙ rw (no, y)))))
      to (inr z) = let d = (byte_is b s ok n l done).0 z in
          skip_done (picks_moves _ m (shown_moves b s ok n (done_moved d))) d

      from : PickDone (plan_of b) (status_in b s) n → (children_counted Ends b s n ≢ 0) ⊎ (node_byte s n ≡ 2)
      from (branch_done c h x) = inl (child_counted Ends c h
          (rw (no, T_true (complete_b (plan_of b) (status_in b s) c) ((completes c h).from x))))
      from (group_skipped k d) = inr ((byte_is b s ok n l done).1 d)

  pub other_complete : kind_of b n ≢ 1 → ended ≡ complete_b (plan_of b) (status_in b s) n
  other_complete o =
      by_cases (ℕ_discrete (kind_of b n) 0) (λ k. task_complete k)
      (λ k. choice_complete (rw (plan_kind b n) (kind_choice (kind_of b n) k o)))

  -- begun: its byte says so, or a child is begun
  pub node_begun : (not (eqb (node_byte s n) 0) || not (eqb (children_counted tallies.Begun b s n) 0))
      ≡ begun_b (plan_of b) (status_in b s) n
  unfolding counted_at
  node_begun =
      by_begun _ (r_map (to, λ x. from x (branch (plan_of b) x.beneath))
      (r_or (nonzero (node_byte s n)) (nonzero (children_counted tallies.Begun b s n))))
    where
      waits : (node_byte s n ≡ 0) ↔ (status_in b s n ≡ waiting)
      waits = byte_is b s ok n l waiting

      to : (node_byte s n ≢ 0) ⊎ (children_counted tallies.Begun b s n ≢ 0) → Begun (plan_of b) (status_in b s) n
      to (inl z) = let k : status_in b s n ≢ waiting = λ q. z (waits.1 q) in
          record { who = n; moves = shown_moves b s ok n k; beneath = itself; begun = k }
      to (inr z) =
          let w = counted_child_lem tallies.Begun z in
          let x = (begins w.0 w.1).to (true_T _ w.2) in
          record {
            who = x.who;
            moves = x.moves;
            beneath = under_trans (plan_of b) (child_under (plan_of b) w.1) x.beneath;
            begun = x.begun;
          }

      from : (x : Begun (plan_of b) (status_in b s) n) → (n ≡ x.who) ⊎ Branch (plan_of b) n x.who
          → (node_byte s n ≢ 0) ⊎ (children_counted tallies.Begun b s n ≢ 0)
      from x (inl e) = inl (λ z. x.begun (ap (status_in b s) (sym e) ∙ waits.0 z))
      from x (inr y) = inr (child_counted tallies.Begun y.via y.child
          (T_true _ ((begins y.via y.child).from
          (record { who = x.who; moves = x.moves; beneath = y.beneath; begun = x.begun }))))
