-- Locality: what is enabled at a node, and whether it is complete, depends on what is under it alone; and it splits
-- along the children.
use Rattle.runs.proofs.Base.{◌≡◌, sym, ap, ◌∙◌, ◌↔◌, ◌⊎◌, inl, inr, ℕ, arith, T}
use Rattle.runs.specs.Plan.{task, all_of, optional, Picks, Moves, Plan, itself, Child, Under}
use Rattle.runs.specs.WellFormed.{WellFormed}
use Rattle.runs.specs.Execution.{State, Event, start, finish, skip, node_of, task_done, all_done}
use Rattle.runs.specs.Classes.{Begins}
use Rattle.runs.specs.Execution.{any_done, skip_done, Complete, Begun}
use Rattle.runs.specs.Execution.{Rival, by_branch, by_skip, Ready, Enabled, can_start, can_finish, can_skip}
use Rattle.runs.proofs.Reflect.{clash}
use Rattle.runs.proofs.Plan.{under_trans, child_under, Branch, branch, under_le, child_lt, one_branch}

module _ (p : Plan) where
  -- s and r agree under n
  abbrev pub Agree : ℕ → State → State → Type 0
  Agree n s r = (x : ℕ) → Under p n x → s x ≡ r x

  pub agree_sym : (n : ℕ) (s r : State) → Agree n s r → Agree n r s
  agree_sym n s r a x u = sym (a x u)

  pub agree_child : {n c : ℕ} (s r : State) → Under p n c → Agree n s r → Agree c s r
  agree_child s r u a x v = a x (under_trans p u v)

  -- whether n is complete depends on the states under n
  pub complete_local : (s r : State) {n : ℕ} → Agree n s r → Complete p s n → Complete p r n
  complete_local s r {n} a (task_done k d) = task_done k (sym (a n itself) ∙ d)
  complete_local s r {n} a (all_done k f) =
      all_done k (λ c hc. complete_local s r (agree_child s r (child_under p hc) a) (f c hc))
  complete_local s r {n} a (any_done c k hc d) =
      any_done c k hc (complete_local s r (agree_child s r (child_under p hc) a) d)
  complete_local s r {n} a (skip_done k d) = skip_done k (sym (a n itself) ∙ d)

  pub begun_local : (s r : State) {n : ℕ} → Agree n s r → Begun p s n → Begun p r n
  begun_local s r a t = record {
    who = t.who;
    moves = t.moves;
    beneath = t.beneath;
    begun = λ e. t.begun (a t.who t.beneath ∙ e);
  }

  rival_local : (s r : State) {n g b : ℕ} → Agree n s r → Under p n g → Rival p s g b → Rival p r g b
  rival_local s r a u (by_branch c hc ne t) =
      by_branch c hc ne (begun_local s r (agree_child s r (under_trans p u (child_under p hc)) a) t)
  rival_local s r {g = g} a u (by_skip k d) = by_skip k (sym (a g u) ∙ d)

  ready_local : (s r : State) {n t : ℕ} → Agree n s r → Ready p n s t → Ready p n r t
  ready_local s r {n} a m = record {
    choice = λ g b k ug hb ub x. m.choice g b k ug hb ub (rival_local r s (agree_sym n s r a) ug x);
    ordered = λ g x y ug hx hy o uy. complete_local s r (agree_child s r (under_trans p ug (child_under p hx)) a)
        (m.ordered g x y ug hx hy o uy);
  }

  -- whether an event is enabled at n depends on the states under n
  pub enabled_local : (s r : State) {n : ℕ} {e : Event} → Agree n s r → Enabled p n s e → Enabled p n r e
  enabled_local s r {n} a (can_start {t = t} m) = can_start record {
    is_task = m.is_task;
    beneath = m.beneath;
    waits = sym (a t m.beneath) ∙ m.waits;
    ready = ready_local s r a m.ready;
  }
  enabled_local s r {n} a (can_finish {t = t} m) =
      can_finish record { is_task = m.is_task; beneath = m.beneath; runs = sym (a t m.beneath) ∙ m.runs }
  enabled_local s r {n} a (can_skip {g = g} m) = can_skip record {
    is_optional = m.is_optional;
    beneath = m.beneath;
    waits = sym (a g m.beneath) ∙ m.waits;
    untaken = λ c hc t. m.untaken c hc (begun_local r s
        (agree_child r s (under_trans p m.beneath (child_under p hc)) (agree_sym n s r a)) t);
    ready = ready_local s r a m.ready;
  }

  pub enabled_under : {n : ℕ} {s : State} {e : Event} → Enabled p n s e → Under p n (node_of e)
  enabled_under (can_start m) = m.beneath
  enabled_under (can_finish m) = m.beneath
  enabled_under (can_skip m) = m.beneath

  -- the event's node is of the kind that it asks for
  abbrev pub OfKind : Event → Type 0
  OfKind (start t) = p.tree.kind t ≡ task
  OfKind (finish t) = p.tree.kind t ≡ task
  OfKind (skip g) = p.tree.kind g ≡ optional

  pub enabled_of_kind : {n : ℕ} {s : State} {e : Event} → Enabled p n s e → OfKind e
  enabled_of_kind (can_start m) = m.is_task
  enabled_of_kind (can_finish m) = m.is_task
  enabled_of_kind (can_skip m) = m.is_optional

  pub enabled_moves : {n : ℕ} {s : State} {e : Event} → Enabled p n s e → Moves (p.tree.kind (node_of e))
  enabled_moves (can_start m) = rw m.is_task tt
  enabled_moves (can_finish m) = rw m.is_task tt
  enabled_moves (can_skip m) = rw m.is_optional tt

  -- what is allowed at n is allowed at each node under n that the task is under
  ready_down : (s : State) {n c t : ℕ} → Under p n c → Ready p n s t → Ready p c s t
  ready_down s u m = record {
    choice = λ g b k ug. m.choice g b k (under_trans p u ug);
    ordered = λ g x y ug. m.ordered g x y (under_trans p u ug);
  }

  pub enabled_down : (s : State) {n c : ℕ} {e : Event} → Under p n c → Under p c (node_of e) → Enabled p n s e
      → Enabled p c s e
  enabled_down s u v (can_start m) = can_start record {
    is_task = m.is_task;
    beneath = v;
    waits = m.waits;
    ready = ready_down s u m.ready;
  }
  enabled_down s u v (can_finish m) = can_finish record { is_task = m.is_task; beneath = v; runs = m.runs }
  enabled_down s u v (can_skip m) = can_skip record {
    is_optional = m.is_optional;
    beneath = v;
    waits = m.waits;
    untaken = m.untaken;
    ready = ready_down s u m.ready;
  }

  -- what n itself asks of a start or a skip under its child c, beside what c asks
  pub record Admits (n c : ℕ) (s : State) : Type 0 where
    pub choice : Picks (p.tree.kind n) → ¬ Rival p s n c
    pub ordered : (a : ℕ) → Child p n a → T (p.order a c) → Complete p s a

  abbrev pub AdmitsEvent : ℕ → ℕ → State → Event → Type 0
  AdmitsEvent n c s e = Begins e → Admits n c s

  ready_admits : (s : State) {n c t : ℕ} → Child p n c → Under p c t → Ready p n s t → Admits n c s
  ready_admits s {n} {c} hc u m =
      record { choice = λ k. m.choice n c k itself hc u; ordered = λ a ha o. m.ordered n a c itself ha hc o u }

  pub enabled_ready : {n : ℕ} {s : State} {e : Event} → Begins e → Enabled p n s e → Ready p n s (node_of e)
  enabled_ready b (can_start m) = m.ready
  enabled_ready b (can_finish m) = absurd b
  enabled_ready b (can_skip m) = m.ready

  pub admits_of : (s : State) {n c : ℕ} {e : Event} → Child p n c → Under p c (node_of e) → Enabled p n s e
      → AdmitsEvent n c s e
  admits_of s hc u m b = ready_admits s hc u (enabled_ready b m)

  module _ (w : WellFormed p) where
    ready_up : (s : State) {n c t : ℕ} → Child p n c → Under p c t → Ready p c s t → Admits n c s → Ready p n s t
    ready_up s {n} {c} {t} hc ut m q = record {
      choice = λ g b k ug hb ub. choose_at g b k hb ub (branch p ug);
      ordered = λ g a b ug ha hb o ub. order_at_lem g a b ha hb o ub (branch p ug);
    }
      where
        choose_at : (g b : ℕ) → Picks (p.tree.kind g) → Child p g b → Under p b t → (n ≡ g) ⊎ Branch p n g
            → ¬ Rival p s g b
        choose_at g b k hb ub (inl e) x =
            let same : c ≡ b = one_branch p w hc (rw e hb) ut ub in
            q.choice (rw e k) (rw (e, same) x)
        choose_at g b k hb ub (inr r) x =
            let same : r.via ≡ c = one_branch p w r.child hc
            (under_trans p r.beneath (under_trans p (child_under p hb) ub)) ut in
            m.choice g b k (rw (← same) r.beneath) hb ub x

        order_at_lem : (g a b : ℕ) → Child p g a → Child p g b → T (p.order a b) → Under p b t → (n ≡ g) ⊎ Branch p n g
            → Complete p s a
        order_at_lem g a b ha hb o ub (inl e) =
            let hb' : Child p n b = rw e hb in
            q.ordered a (rw e ha) (rw (one_branch p w hc hb' ut ub) o)
        order_at_lem g a b ha hb o ub (inr r) =
            let same : r.via ≡ c = one_branch p w r.child hc
            (under_trans p r.beneath (under_trans p (child_under p hb) ub)) ut in
            m.ordered g a b (rw (← same) r.beneath) ha hb o ub

    -- what is enabled at a child is enabled at its parent, if the parent lets it begin
    pub enabled_up : (s : State) {n c : ℕ} {e : Event} → Child p n c → Enabled p c s e → AdmitsEvent n c s e
        → Enabled p n s e
    enabled_up s hc (can_start m) q = can_start record {
      is_task = m.is_task;
      beneath = under_trans p (child_under p hc) m.beneath;
      waits = m.waits;
      ready = ready_up s hc m.beneath m.ready (q tt);
    }
    enabled_up s hc (can_finish m) q = can_finish record {
      is_task = m.is_task;
      beneath = under_trans p (child_under p hc) m.beneath;
      runs = m.runs;
    }
    enabled_up s hc (can_skip m) q = can_skip record {
      is_optional = m.is_optional;
      beneath = under_trans p (child_under p hc) m.beneath;
      waits = m.waits;
      untaken = m.untaken;
      ready = ready_up s hc m.beneath m.ready (q tt);
    }

    -- decomposition: an event under the child c is enabled at n exactly if it is enabled at c and n lets it begin
    pub enabled_at_child : (s : State) {n c : ℕ} {e : Event} → Child p n c → Under p c (node_of e)
        → Enabled p n s e ↔ (Enabled p c s e × AdmitsEvent n c s e)
    enabled_at_child s hc u = (
      λ m. (enabled_down s (child_under p hc) u m, admits_of s hc u m),
      λ x. enabled_up s hc x.0 x.1,
    )

    -- nothing stands above a node by itself
    pub own_ready : (s : State) (n : ℕ) → Ready p n s n
    own_ready s n = record {
      choice = λ g b kg ug hb ub. no_group_above ug hb ub;
      ordered = λ g a b ug ha hb o ub. no_group_above ug hb ub;
    }
      where
        no_group_above : {A : Type 0} {n g b : ℕ} → Under p n g → Child p g b → Under p b n → A
        no_group_above u hb v = absurd (omega (arith, under_le p w u, child_lt p w hb, under_le p w v))

    -- no event is an all_of group's; a choice's own event is the skip of an optional group
    pub all_of_rests : {n : ℕ} (e : Event) → p.tree.kind n ≡ all_of → OfKind e → n ≡ node_of e → ⊥
    all_of_rests (start t) k f q = clash cc
    all_of_rests (finish t) k f q = clash cc
    all_of_rests (skip g) k f q = clash cc

    pub choice_event : {n : ℕ} (e : Event) → Picks (p.tree.kind n) → OfKind e → n ≡ node_of e →
        (p.tree.kind n ≡ optional) × (e ≡ skip n)
    choice_event (start t) k f q = absurd (rw (q, f) at k)
    choice_event (finish t) k f q = absurd (rw (q, f) at k)
    choice_event (skip g) k f q = (ap p.tree.kind q ∙ f, ap skip (sym q))

    -- the child of an all_of group that an allowed event falls under
    pub branch_of : (s : State) {n : ℕ} {e : Event} → p.tree.kind n ≡ all_of → Enabled p n s e → Branch p n (node_of e)
    branch_of s {n} {e} k m = go (branch p (enabled_under m))
      where
        go : (n ≡ node_of e) ⊎ Branch p n (node_of e) → Branch p n (node_of e)
        go (inl q) = absurd (all_of_rests e k (enabled_of_kind m) q)
        go (inr b) = b
