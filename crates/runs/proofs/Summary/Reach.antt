-- Each event of a task or an optional group under a node can be met in an execution of the node.
use Rattle.runs.proofs.Base.{◌≡◌, refl, sym, ap, ◌⊎◌, inl, inr, ◌∷◌, ℕ}
use Rattle.runs.specs.Plan.{Kind, task, all_of, any_of, optional, Plan, Node, Child, Under}
use Rattle.runs.specs.WellFormed.{WellFormed}
use Rattle.runs.specs.Execution.{Event, start, finish, skip, History, node_of, Execution}
use Rattle.runs.proofs.Reflect.{clash}
use Rattle.runs.proofs.Plan.{Branch, branch, from_leaves, before_child}
use Rattle.runs.specs.Classes.{Anything, MayMeet}
use Rattle.runs.proofs.Execution.{OfKind, all_of_rests, choice_event, under_task, picks_any, picks_optional}
use Rattle.runs.proofs.Summary.Meet.{meet_task, meet_any, meet_optional, meet_all}
use Rattle.runs.proofs.Summary.Quiet.{quiet_anything}

module _ (p : Plan) (w : WellFormed p) where
  -- each event of a task or an optional group under n can be met in an execution of n
  pub reach : (n : ℕ) → Node p n → (e : Event) → OfKind p e → Under p n (node_of e) → MayMeet p Anything (λ x. x ≡ e) n
  reach = from_leaves p w (λ n. (e : Event) → OfKind p e → Under p n (node_of e)
      → MayMeet p Anything (λ x. x ≡ e) n) step
    where
      at_task : (n : ℕ) → p.tree.kind n ≡ task → (e : Event) → OfKind p e → n ≡ node_of e
          → MayMeet p Anything (λ x. x ≡ e) n
      at_task n k (start t) f q = (meet_task p w Anything (λ x. x ≡ start t) k).1 (inl (ap start q))
      at_task n k (finish t) f q = (meet_task p w Anything (λ x. x ≡ finish t) k).1 (inr (tt, ap finish q))
      at_task n k (skip g) f q = clash cc

      step : (n : ℕ) → Node p n → ((c : ℕ) → Child p n c → (e : Event) → OfKind p e → Under p c (node_of e)
          → MayMeet p Anything (λ x. x ≡ e) c)
          → (e : Event) → OfKind p e → Under p n (node_of e) → MayMeet p Anything (λ x. x ≡ e) n
      step n l ih e k u = go (p.tree.kind n) refl (branch p u)
        where
          go : (kd : Kind) → p.tree.kind n ≡ kd → (n ≡ node_of e) ⊎ Branch p n (node_of e)
              → MayMeet p Anything (λ x. x ≡ e) n
          go task kn b = at_task n kn e k (under_task p w kn u)
          go all_of kn (inl q) = absurd (all_of_rests p w e kn k q)
          go all_of kn (inr b) = (meet_all p w Anything (λ x. x ≡ e) kn).1 (
            b.via,
            b.child,
            ih b.via b.child e k b.beneath,
            λ a q. quiet_anything p w a (before_child p w b.child q).node,
          )
          go any_of kn (inl q) = let (ko, z) = choice_event p w e (picks_any kn) k q in clash cc
          go any_of kn (inr b) = (meet_any p w Anything (λ x. x ≡ e) kn).1
              (b.via, b.child, ih b.via b.child e k b.beneath)
          go optional kn (inl q) = (meet_optional p w Anything (λ x. x ≡ e) kn).1
              (inr (sym (choice_event p w e (picks_optional kn) k q).1))
          go optional kn (inr b) = (meet_optional p w Anything (λ x. x ≡ e) kn).1
              (inl (b.via, b.child, ih b.via b.child e k b.beneath))

  pub reached : {n : ℕ} → Node p n → (e : Event) → OfKind p e → Under p n (node_of e)
      → (r : History) × Execution p n (e ∷ r)
  reached {n} l e k u = let m = reach n l e k u in (m.before, rw m.hit at m.execution)
