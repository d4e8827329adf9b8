-- Decomposition, all_of: an execution of the group is one of each child, with every start and every skip after what is
-- ordered before its child.
use Rattle.runs.proofs.Base.{◌≡◌, ◌↔◌, [], ◌∷◌, ℕ, T}
use Rattle.runs.specs.Plan.{all_of, Plan, Child, Under}
use Rattle.runs.specs.WellFormed.{WellFormed}
use Rattle.runs.specs.Execution.{State, Event, History, node_of, status_after, all_done, Complete, Enabled}
use Rattle.runs.specs.Classes.{Begins}
use Rattle.runs.specs.Execution.{Execution, none_yet, one_more}
use Rattle.runs.specs.Execution.{Completed, Earlier, none_later, one_later}
use Rattle.runs.proofs.Plan.{child_under, Branch}
use Rattle.runs.proofs.Execution.Locality.{enabled_local, Admits, AdmitsEvent, admits_of, enabled_up, branch_of}
use Rattle.runs.proofs.Execution.Parts.{part, part_in, after_part, part_execution, part_complete, execution_tail}
use Rattle.runs.proofs.Execution.Parts.{execution_last}
use Rattle.runs.proofs.Execution.Parts.{earlier_execution, part_tail}
use Rattle.runs.proofs.Execution.Completeness.{complete_all}

module _ (p : Plan) (w : WellFormed p) where
  -- what an execution of an all_of group is, in terms of its children
  pub record AllOfExecution (n : ℕ) (h : History) : Type 0 where
    pub inside : (e : Event) (r : History) → Earlier (e ∷ r) h → Branch p n (node_of e)
    pub parts : (c : ℕ) → Child p n c → Execution p c (part p w c h)
    pub orders : (a b : ℕ) (e : Event) (r : History) → Child p n a → Child p n b → T (p.order a b) → Begins e
        → Earlier (e ∷ r) h
        → Under p b (node_of e) → Completed p a (part p w a r)

  pub all_of_split : {n : ℕ} (h : History) → p.tree.kind n ≡ all_of → Execution p n h → AllOfExecution n h
  all_of_split {n} h k f = record {
    inside = λ e r q. branch_of p w (status_after r) k (execution_last p w (earlier_execution p w q f));
    parts = λ c hc. part_execution p w (child_under p hc) f;
    orders = λ a b e r ha hb o be q u. record {
      execution = part_execution p w (child_under p ha) (execution_tail p w (earlier_execution p w q f));
      complete = (part_complete p w a r).0
          ((admits_of p (status_after r) hb u (execution_last p w (earlier_execution p w q f)) be).ordered a ha o);
    };
  }

  pub no_choice : {n c : ℕ} {s : State} → p.tree.kind n ≡ all_of
      → ((a : ℕ) → Child p n a → T (p.order a c) → Complete p s a) → Admits p n c s
  no_choice k o = record { choice = λ k'. absurd (rw k at k'); ordered = o }

  join_step : {n : ℕ} (e : Event) (h : History) → p.tree.kind n ≡ all_of → AllOfExecution n (e ∷ h)
      → Enabled p n (status_after h) e
  join_step {n} e h k a = enabled_up p w (status_after h) hc ok gate
    where
      b : Branch p n (node_of e)
      b = a.inside e h none_later

      hc : Child p n b.via
      hc = b.child

      ok : Enabled p b.via (status_after h) e
      ok = enabled_local p (status_after (part p w b.via h)) (status_after h) (after_part p w b.via h)
          (execution_last p w (rw (part_in p w b.via e h b.beneath) at (a.parts b.via hc)))

      gate : AdmitsEvent p n b.via (status_after h) e
      gate be = no_choice k (λ x hx o. (part_complete p w x h).1
          (a.orders x b.via e h hx hc o be none_later b.beneath).complete)

  pub all_of_join : {n : ℕ} (h : History) → p.tree.kind n ≡ all_of → AllOfExecution n h → Execution p n h
  all_of_join [] k a = none_yet
  all_of_join (e ∷ h) k a = one_more (all_of_join h k (record {
    inside = λ e' r q. a.inside e' r (one_later q);
    parts = λ c hc. part_tail p w c e h (a.parts c hc);
    orders = λ x b e r hx hb o be q u. a.orders x b e r hx hb o be (one_later q) u;
  })) (join_step e h k a)

  -- a history is an execution of an all_of group exactly if it is so in terms of the children
  pub all_of_execution : {n : ℕ} (h : History) → p.tree.kind n ≡ all_of → Execution p n h ↔ AllOfExecution n h
  all_of_execution {n} h k = (all_of_split h k, all_of_join h k)

  -- the part of a completed execution under a child is a completed execution of the child
  pub part_completed : {n c : ℕ} {h : History} → p.tree.kind n ≡ all_of → Completed p n h → Child p n c
      → Completed p c (part p w c h)
  part_completed {n} {c} {h} k x hc = record {
    execution = part_execution p w (child_under p hc) x.execution;
    complete = (part_complete p w c h).0 (complete_all p k x.complete c hc);
  }

  -- an execution of an all_of group is completed exactly if each part is
  pub all_of_completed : {n : ℕ} (h : History) → p.tree.kind n ≡ all_of → Completed p n h
      ↔ (Execution p n h × ((c : ℕ) → Child p n c → Completed p c (part p w c h)))
  all_of_completed {n} h k = (
    λ x. (x.execution, λ c hc. part_completed k x hc),
    λ x. record { execution = x.0; complete = all_done k (λ c hc. (part_complete p w c h).1 (x.1 c hc).complete) },
  )
