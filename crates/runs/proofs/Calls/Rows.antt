-- The rows of the table: a call is accepted exactly if it is enabled and violates nothing; 21, 22 or 26 is its first
-- refusal exactly if it is enabled and violates something.
use Rattle.runs.proofs.Base.{◌≡◌, refl, sym, ◌∙◌, ◌⊎◌, inl, inr, ◌↔◌, Iff·trans, Bool, decide, Option, none}
use Rattle.runs.proofs.Base.{some, List, [], ◌∷◌, ◌++◌, ℕ, T}
use Rattle.runs.specs.Searches.{either}
use Rattle.runs.specs.Plan.{task, Plan, Node, Under}
use Rattle.runs.specs.WellFormed.{WellFormed}
use Rattle.runs.specs.Execution.{waiting, running, start, finish, skip, Ready, Enabled, can_start}
use Rattle.runs.specs.Execution.{can_finish, can_skip}
use Rattle.runs.specs.Calls.{Call, one, together, World, Refusal, no_task, wrong_status, branch_begun, order_open}
use Rattle.runs.specs.Calls.{pre_unmet, inc_broken, not_rising, post_opposed, no_optional, Task, Absent}
use Rattle.runs.specs.Calls.{WrongStatus, BranchBegun, OrderOpen, Applies, checks, First, None}
use Rattle.runs.specs.Model.Monitor.{refusal_of}
use Rattle.runs.proofs.Reflect.{clash, decided, force, r_T}
use Rattle.runs.proofs.Plan.{under_node, child_parent, under_root}
use Rattle.runs.proofs.Calls.Reflect.{r_status, r_task, r_optional, r_complete}
use Rattle.runs.proofs.Calls.First.{member_b, first_member, none_append, first_append, first_not_none}
use Rattle.runs.proofs.Calls.First.{refused_first, refused_none}
use Rattle.runs.proofs.Calls.Violation.{EnabledCall, ViolatesCall}

no_sign : {v : Bool} → none ≡ some v → ⊥
no_sign q = clash cc

-- the checks of a call in two parts: those of being enabled, those of a violation
abbrev enabled_checks : Call → List Refusal
enabled_checks (one (start t)) = no_task ∷ wrong_status ∷ branch_begun ∷ order_open ∷ []
enabled_checks (one (finish t)) = no_task ∷ wrong_status ∷ []
enabled_checks (one (skip g)) = no_optional ∷ wrong_status ∷ branch_begun ∷ order_open ∷ []
enabled_checks (together ts) = not_rising ∷ no_task ∷ wrong_status ∷ []

abbrev violation_checks : Call → List Refusal
violation_checks (one (start t)) = pre_unmet ∷ inc_broken ∷ []
violation_checks (one (finish t)) = inc_broken ∷ []
violation_checks (one (skip g)) = []
violation_checks (together ts) = post_opposed ∷ inc_broken ∷ []

two_parts : (c : Call) → checks c ≡ enabled_checks c ++ violation_checks c
two_parts (one (start t)) = refl
two_parts (one (finish t)) = refl
two_parts (one (skip g)) = refl
two_parts (together ts) = refl

abbrev pub Violating : Refusal → Type 0
Violating r = (r ≡ pre_unmet) ⊎ ((r ≡ inc_broken) ⊎ (r ≡ post_opposed))

not_enabling : (c : Call) (r : Refusal) → Violating r → ¬ T (member_b r (enabled_checks c))
unfolding member_b either decide
not_enabling (one (start t)) r (inl q) x = rw q at x
not_enabling (one (start t)) r (inr (inl q)) x = rw q at x
not_enabling (one (start t)) r (inr (inr q)) x = rw q at x
not_enabling (one (finish t)) r (inl q) x = rw q at x
not_enabling (one (finish t)) r (inr (inl q)) x = rw q at x
not_enabling (one (finish t)) r (inr (inr q)) x = rw q at x
not_enabling (one (skip g)) r (inl q) x = rw q at x
not_enabling (one (skip g)) r (inr (inl q)) x = rw q at x
not_enabling (one (skip g)) r (inr (inr q)) x = rw q at x
not_enabling (together ts) r (inl q) x = rw q at x
not_enabling (together ts) r (inr (inl q)) x = rw q at x
not_enabling (together ts) r (inr (inr q)) x = rw q at x

first_violating : (A : Refusal → Type 0) (c : Call) (r : Refusal) → First A r (violation_checks c) → Violating r × A r
first_violating A (one (start t)) r (inl (q, a)) = (inl (sym q), a)
first_violating A (one (start t)) r (inr (k, inl (q, a))) = (inr (inl (sym q)), a)
first_violating A (one (start t)) r (inr (k, inr (k', x))) = absurd x
first_violating A (one (finish t)) r (inl (q, a)) = (inr (inl (sym q)), a)
first_violating A (one (finish t)) r (inr (k, x)) = absurd x
first_violating A (one (skip g)) r x = absurd x
first_violating A (together ts) r (inl (q, a)) = (inr (inr (sym q)), a)
first_violating A (together ts) r (inr (k, inl (q, a))) = (inr (inl (sym q)), a)
first_violating A (together ts) r (inr (k, inr (k', x))) = absurd x

-- p is left of the whole plan: its nodes are nodes of that, and of the same kind
pub record LeftOf (whole p : Plan) : Type 0 where
  pub node : (i : ℕ) → Node p i → Node whole i
  pub same_kind : (i : ℕ) → Node p i → whole.tree.kind i ≡ p.tree.kind i

module _ (whole p : Plan) (part : LeftOf whole p) (w : WellFormed p) (a : World) where
  -- 17 to 20, 25 and 27 do not apply to what is enabled, and what they do not apply to is enabled
  ready_choice : {t : ℕ} → Ready p 0 a.status t → ¬ BranchBegun p a.status t
  ready_choice m x = m.choice x.group x.own x.picks
      (under_root p w x.group (child_parent p w x.own_child)) x.own_child x.above x.rival

  ready_order : {t : ℕ} → Ready p 0 a.status t → ¬ OrderOpen p a.status t
  ready_order m x = let o = w.order_group x.earlier x.later x.ordered in
      x.incomplete (m.ordered o.0 x.earlier x.later (under_root p w o.0 (child_parent p w o.2)) o.2
      o.3 x.ordered x.above)

  is_ready : (t : ℕ) → ¬ BranchBegun p a.status t → ¬ OrderOpen p a.status t → Ready p 0 a.status t
  is_ready t k₁ k₂ = record {
    choice = λ g b k u hb ub r. k₁ (record { group = g; own = b; picks = k; own_child = hb; above = ub; rival = r });
    ordered = λ g x y u hx hy o uy. force (decided (r_complete p w a.status x hx.node))
        (λ n. k₂ (record { earlier = x; later = y; ordered = o; above = uy; incomplete = n }));
  }

  -- what is not absent is a node of p, and a task or an optional group of p exactly if it is one of the whole plan
  present : (t : ℕ) → ¬ Absent p t → Node p t
  present t k = force (decided (r_T (p.tree.here t))) k

  task_of : {t : ℕ} → Under p 0 t → p.tree.kind t ≡ task → Task whole t
  task_of {t} u k = let l = under_node p w.root_node u in
      record { node = part.node t l; is_task = part.same_kind t l ∙ k }

  task_left : {t : ℕ} → Node p t → ¬ ¬ Task whole t → p.tree.kind t ≡ task
  task_left {t} l k = sym (part.same_kind t l) ∙ (force (decided (r_task whole t)) k).is_task

  -- 19, of a node of p
  may_begin : {t : ℕ} → Under p 0 t → Ready p 0 a.status t → ¬ (Absent p t ⊎ BranchBegun p a.status t)
  may_begin u m (inl n) = n (under_node p w.root_node u)
  may_begin u m (inr x) = ready_choice m x

  finish_is : (t : ℕ) → None (Applies whole p a (one (finish t))) (enabled_checks (one (finish t)))
      ↔ Enabled p 0 a.status
      (finish t)
  finish_is t = (to, from)
    where
      to : None (Applies whole p a (one (finish t))) (enabled_checks (one (finish t)))
          → Enabled p 0 a.status (finish t)
      to (k₁, (k₂, u)) = let l = present t (λ n. k₂ (inl n)) in can_finish record {
        is_task = task_left l k₁;
        beneath = under_root p w t l;
        runs = force (decided (r_status (a.status t) running)) (λ n. k₂ (inr n));
      }

      from : Enabled p 0 a.status (finish t)
          → None (Applies whole p a (one (finish t))) (enabled_checks (one (finish t)))
      from (can_finish m) = (λ k. k (task_of m.beneath m.is_task), (runs, tt))
        where
          runs : ¬ WrongStatus p a.status (finish t)
          runs (inl n) = n (under_node p w.root_node m.beneath)
          runs (inr n) = n m.runs

  enabled_is : (c : Call) → None (Applies whole p a c) (enabled_checks c) ↔ EnabledCall p a.status c
  enabled_is (one (start t)) = (to, from)
    where
      to : None (Applies whole p a (one (start t))) (enabled_checks (one (start t))) → Enabled p 0 a.status (start t)
      to (k₁, (k₂, (k₃, (k₄, u)))) = let l = present t (λ n. k₃ (inl n)) in can_start record {
        is_task = task_left l k₁;
        beneath = under_root p w t l;
        waits = force (decided (r_status (a.status t) waiting)) k₂;
        ready = is_ready t (λ x. k₃ (inr x)) k₄;
      }

      from : Enabled p 0 a.status (start t)
          → None (Applies whole p a (one (start t))) (enabled_checks (one (start t)))
      from (can_start m) = (
        λ k. k (task_of m.beneath m.is_task),
        (λ k. k m.waits, (may_begin m.beneath m.ready, (ready_order m.ready, tt))),
      )
  enabled_is (one (finish t)) = finish_is t
  enabled_is (one (skip g)) = (to, from)
    where
      to : None (Applies whole p a (one (skip g))) (enabled_checks (one (skip g))) → Enabled p 0 a.status (skip g)
      to (k₁, (k₂, (k₃, (k₄, u)))) = let l = present g (λ n. k₃ (inl n)) in can_skip record {
        is_optional = sym (part.same_kind g l) ∙ (force (decided (r_optional whole g)) k₁).is_optional;
        beneath = under_root p w g l;
        waits = force (decided (r_status (a.status g) waiting)) (λ n. k₂ (inl n));
        untaken = λ c hc t. k₂ (inr (c, hc, t));
        ready = is_ready g (λ x. k₃ (inr x)) k₄;
      }

      from : Enabled p 0 a.status (skip g) → None (Applies whole p a (one (skip g))) (enabled_checks (one (skip g)))
      from (can_skip m) = (
        λ k. k (record { node = part.node g l; is_optional = part.same_kind g l ∙ m.is_optional }),
        (untaken, (may_begin m.beneath m.ready, (ready_order m.ready, tt))),
      )
        where
          l : Node p g
          l = under_node p w.root_node m.beneath

          untaken : ¬ WrongStatus p a.status (skip g)
          untaken (inl n) = n m.waits
          untaken (inr (c, hc, t)) = m.untaken c hc t
  enabled_is (together ts) = (
    λ n. (n.0, λ t i. (finish_is t).0 (λ k. n.1.0 (t, i, k), (λ k. n.1.1.0 (t, i, k), tt))),
    λ x. (
      x.0,
      (λ (t, i, k). ((finish_is t).1 (x.1 t i)).0 k, (λ (t, i, k). ((finish_is t).1 (x.1 t i)).1.0 k, tt)),
    ),
  )

  -- 21, 22 and 26, one of them; a finish has no precondition, a skip asserts nothing either
  violates_not : (c : Call) → None (Applies whole p a c) (violation_checks c) ↔ (¬ ViolatesCall p a c)
  violates_not (one (start t)) = (to, λ k. (λ x. k (inl x), (λ x. k (inr x), tt)))
    where
      to : None (Applies whole p a (one (start t))) (violation_checks (one (start t)))
          → ¬ ViolatesCall p a (one (start t))
      to (k₁, (k₂, u)) (inl x) = k₁ x
      to (k₁, (k₂, u)) (inr x) = k₂ x
  violates_not (one (finish t)) = (to, λ k. (λ x. k (inr x), tt))
    where
      to : None (Applies whole p a (one (finish t))) (violation_checks (one (finish t)))
          → ¬ ViolatesCall p a (one (finish t))
      to (k, u) (inl x) = no_sign x.needs
      to (k, u) (inr x) = k x
  violates_not (one (skip g)) = (λ u. harmless, λ k. tt)
    where
      harmless : ¬ ViolatesCall p a (one (skip g))
      harmless (inl x) = no_sign x.needs
      harmless (inr x) = no_sign x.breaks
  violates_not (together ts) = (to, λ k. (λ x. k (inl x), (λ x. k (inr x), tt)))
    where
      to : None (Applies whole p a (together ts)) (violation_checks (together ts)) → ¬ ViolatesCall p a (together ts)
      to (k₁, (k₂, u)) (inl x) = k₁ x
      to (k₁, (k₂, u)) (inr x) = k₂ x

  violates_of : (c : Call) (r : Refusal) → Violating r → Applies whole p a c r → ViolatesCall p a c
  violates_of (one e) r (inl q) x = inl (rw q at x)
  violates_of (one e) r (inr (inl q)) x = inr (rw q at x)
  violates_of (one e) r (inr (inr q)) x = absurd (rw q at x)
  violates_of (together ts) r (inl q) x = absurd (rw q at x)
  violates_of (together ts) r (inr (inl q)) x = inr (rw q at x)
  violates_of (together ts) r (inr (inr q)) x = inl (rw q at x)

  -- a call is accepted exactly if it is enabled and none of 21, 22 and 26 applies
  pub accepted_is : (c : Call) → (refusal_of whole p a c ≡ none) ↔ (EnabledCall p a.status c × (¬ ViolatesCall p a c))
  accepted_is c = Iff·trans (refused_none whole p w a c) (
    λ n. let (x, y) =
        (none_append (Applies whole p a c) (enabled_checks c) (violation_checks c)).0 (rw (two_parts c) at n) in
        ((enabled_is c).0 x, (violates_not c).0 y),
    λ x. rw (two_parts c) ((none_append (Applies whole p a c) (enabled_checks c) (violation_checks c)).1
        ((enabled_is c).1 x.0, (violates_not c).1 x.1)),
  )

  -- a refused call is not enabled, or it is and is refused for 21, 22 or 26
  Refused : Call → Refusal → Type 0
  Refused c r = First (Applies whole p a c) r (enabled_checks c)
      ⊎ (EnabledCall p a.status c × (Violating r × Applies whole p a c r))

  refused_is : (c : Call) (r : Refusal) → refusal_of whole p a c ≡ some r → Refused c r
  unfolding Refused
  refused_is c r q = at (first_append (Applies whole p a c) r (enabled_checks c) (violation_checks c)
      (rw (two_parts c) at ((refused_first whole p w a c r).0 q)))
    where
      at : First (Applies whole p a c) r (enabled_checks c)
          ⊎ (None (Applies whole p a c) (enabled_checks c) × First (Applies whole p a c) r (violation_checks c))
          → First (Applies whole p a c) r (enabled_checks c)
          ⊎ (EnabledCall p a.status c × (Violating r × Applies whole p a c r))
      at (inl x) = inl x
      at (inr (n, x)) = inr ((enabled_is c).0 n, first_violating (Applies whole p a c) c r x)

  -- its refusal is 21, 22 or 26 exactly if it is enabled and one of them applies
  pub violates_to : (c : Call) (r : Refusal) → Violating r → refusal_of whole p a c ≡ some r
      → EnabledCall p a.status c × ViolatesCall p a c
  unfolding Refused
  violates_to c r v q = at (refused_is c r q)
    where
      at : Refused c r → EnabledCall p a.status c × ViolatesCall p a c
      at (inl x) = absurd (not_enabling c r v (first_member (Applies whole p a c) r (enabled_checks c) x))
      at (inr (m, (y, x))) = (m, violates_of c r y x)

  pub violates_from : (c : Call) → EnabledCall p a.status c → ViolatesCall p a c
      → (r : Refusal) × Violating r × (refusal_of whole p a c ≡ some r)
  unfolding Refused
  violates_from c m b = at (refusal_of whole p a c) refl
    where
      found : (r : Refusal) → refusal_of whole p a c ≡ some r → Refused c r
          → (r : Refusal) × Violating r × (refusal_of whole p a c ≡ some r)
      found r q (inl x) = absurd (first_not_none (Applies whole p a c) r (enabled_checks c) x ((enabled_is c).1 m))
      found r q (inr (n, (v, x))) = (r, v, q)

      at : (o : Option Refusal) → refusal_of whole p a c ≡ o
          → (r : Refusal) × Violating r × (refusal_of whole p a c ≡ some r)
      at none q = absurd (((accepted_is c).0 q).1 b)
      at (some r) q = found r q (refused_is c r q)
