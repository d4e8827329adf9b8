-- Fewer branches and more orders: every execution is one of the plan before, so what may not happen and what must
-- happen stay as they are.
use Rattle.runs.proofs.Base.{◌≡◌, refl, sym, ◌∙◌, inl, inr, Bool, ℕ, ◌<◌, T}
use Rattle.runs.specs.Plan.{all_of, Tree, Plan, itself, below, Node, Child, Under, Before, direct, chain}
use Rattle.runs.specs.Plan.{Unordered, Concurrent, at_group, deeper}
use Rattle.runs.specs.WellFormed.{WellFormed}
use Rattle.runs.specs.Execution.{State, Event, History, status_after, task_done, all_done, any_done, skip_done}
use Rattle.runs.specs.Execution.{Complete, Begun, Rival, by_branch, by_skip, Ready, Enabled, can_start}
use Rattle.runs.specs.Execution.{can_finish, can_skip, Execution, none_yet, one_more, Completed}
use Rattle.runs.specs.Summary.{May, Must, ExternalPre, Clobbers, precondition, incondition, MayClobber, Silent}
use Rattle.runs.specs.Summary.{MustClobber, by_any_of, by_child, by_pair}
use Rattle.runs.specs.Verdict.{Doomed, by_clobber, by_start}
use Rattle.runs.specs.Branches.{Keeps}
use Rattle.runs.specs.Model.Blocked.{over}
use Rattle.runs.proofs.Plan.{under_trans, child_under, under_node, order_child, before_child}
use Rattle.runs.proofs.Execution.{done_moved, moved_under}

module _ (p : Plan) (t : Tree) (o : ℕ → ℕ → Bool) where
  -- what is said of histories rests on the conditions alone
  pub pre_over : {f : ℕ} {v : Bool} {r : History} → ExternalPre p f v r → ExternalPre (over p t o) f v r
  pre_over x = record { event = x.event; before = x.before; at = x.at; needs = x.needs; unasserted = x.unasserted }

  pub clobbers_over : {f : ℕ} {v : Bool} {r : History} {e : Event} → Clobbers p f v r e → Clobbers (over p t o) f v r e
  clobbers_over (precondition nd sp) = precondition nd sp
  clobbers_over (incondition u ne ho ru br) = incondition u ne ho ru br

  -- From n down, the plan with the tree t and the orders o is thinner: it has no other nodes, what it lacks hangs from
  -- choices, and no order among its nodes is lost. (Kinds and parents are compared at nodes only: past them a tree may
  -- say anything.)
  pub record Thinner (n : ℕ) : Type 0 where
    pub present : T (t.here n)
    pub same_kind : (i : ℕ) → T (t.here i) → p.tree.kind i ≡ t.kind i
    pub same_parent : (i : ℕ) → 0 < i → T (t.here i) → p.tree.parent i ≡ t.parent i
    pub no_other : (g c : ℕ) → Under (over p t o) n g → Child (over p t o) g c → Child p g c
    pub all_parts : (g c : ℕ) → Under (over p t o) n g → t.kind g ≡ all_of → Child p g c → Child (over p t o) g c
    pub all_orders : (g a b : ℕ) → Under (over p t o) n g → Child (over p t o) g a → Child (over p t o) g b
        → T (p.order a b) → T (o a b)

  pub thinner_below : {n c : ℕ} → Thinner n → Under (over p t o) n c → Thinner c
  thinner_below th u = record {
    present = under_node (over p t o) th.present u;
    same_kind = th.same_kind;
    same_parent = th.same_parent;
    no_other = λ g c ug. th.no_other g c (under_trans (over p t o) u ug);
    all_parts = λ g c ug. th.all_parts g c (under_trans (over p t o) u ug);
    all_orders = λ g a b ug. th.all_orders g a b (under_trans (over p t o) u ug);
  }

module _ (p : Plan) (w : WellFormed p) (t : Tree) (o : ℕ → ℕ → Bool) (wq : WellFormed (over p t o)) where
  abbrev q : Plan
  q = over p t o

  module _ {n : ℕ} (th : Thinner p t o n) where
    kind_of_lem : {i : ℕ} → Under q n i → p.tree.kind i ≡ t.kind i
    kind_of_lem {i} u = th.same_kind i (under_node q th.present u)

    parent_out : {i : ℕ} → 0 < i → Node q i → Node q (p.tree.parent i)
    parent_out {i} z l = rw (th.same_parent i z l) (wq.parent_node i z l)

    child_out : {g c : ℕ} → Child p g c → Node q c → Child q g c
    child_out {g} {c} x l = record {
      not_root = x.not_root;
      node = l;
      up = sym (th.same_parent c x.not_root l) ∙ x.up;
    }

    -- what stands above a node of q is a node of q
    under_out : {a i : ℕ} → Under p a i → Node q i → Under q a i
    under_out itself l = itself
    under_out {a} (below {n = i} z k u) l = below z l (rw (← (th.same_parent i z l)) (under_out u (parent_out z l)))

    node_above : {a i : ℕ} → Under p a i → Node q i → Node q a
    node_above itself l = l
    node_above (below z k u) l = node_above u (parent_out z l)

    under_listed : {a i : ℕ} → Under q n a → Under q a i → Under p a i
    under_listed ua itself = itself
    under_listed {a} ua (below {n = i} z l u) =
        let hp : Child p (t.parent i) i =
        th.no_other (t.parent i) i (under_trans q ua u) (record { not_root = z; node = l; up = refl }) in
        below z hp.node (rw hp.up (under_listed ua u))

    pub complete_in_lem : {s : State} {a : ℕ} → Under q n a → Complete q s a → Complete p s a
    complete_in_lem ua (task_done k d) = task_done (kind_of_lem ua ∙ k) d
    complete_in_lem {a = a} ua (all_done k f) = all_done (kind_of_lem ua ∙ k)
        (λ c hc. let hq = th.all_parts a c ua k hc in complete_in_lem (under_trans q ua (child_under q hq)) (f c hq))
    complete_in_lem {a = a} ua (any_done c k hc d) = any_done c (rw (sym (kind_of_lem ua)) at k) (th.no_other a c ua hc)
        (complete_in_lem (under_trans q ua (child_under q hc)) d)
    complete_in_lem ua (skip_done k d) = skip_done (kind_of_lem ua ∙ k) d

    module _ {r : History} (x : Execution q n r) where
      -- what has begun in p is a node of q, and has begun in q
      begun_out : {c : ℕ} → Begun p (status_after r) c → Node q c × Begun q (status_after r) c
      begun_out y = let u : Under q n y.who = moved_under q wq x y.who y.begun in
          let l : Node q y.who = under_node q th.present u in (
            node_above y.beneath l,
            record {
              who = y.who;
              moves = rw (kind_of_lem u) at y.moves;
              beneath = under_out y.beneath l;
              begun = y.begun;
            },
          )

      rival_out : {g b : ℕ} → Rival p (status_after r) g b → Rival q (status_after r) g b
      rival_out (by_branch c hc ne y) = let (l, z) = begun_out y in by_branch c (child_out hc l) ne z
      rival_out {g} (by_skip k d) = by_skip (sym (kind_of_lem (moved_under q wq x g (done_moved d))) ∙ k) d

      -- the choices and the orders above i are those of p
      ready_in : {i : ℕ} → Node q i → Ready q n (status_after r) i → Ready p n (status_after r) i
      ready_in {i} l m = record {
        choice = λ g b k ug hb ub y. let gq : Under q n g = group ug hb ub in
            m.choice g b (rw (← (kind_of_lem gq)) k) gq (child hb ub) (under_out ub l) (rival_out y);
        ordered = λ g a b ug ha hb y ub. let gq : Under q n g = group ug hb ub in
            let aq : Child q g a = th.all_parts g a gq (sym (kind_of_lem gq) ∙ all_at a hb y) ha in
            complete_in_lem (under_trans q gq (child_under q aq))
            (m.ordered g a b gq aq (child hb ub) (th.all_orders g a b gq aq (child hb ub) y) (under_out ub l));
      }
        where
          child : {g b : ℕ} → Child p g b → Under p b i → Child q g b
          child hb ub = child_out hb (node_above ub l)

          group : {g b : ℕ} → Under p n g → Child p g b → Under p b i → Under q n g
          group ug hb ub = under_out ug (node_above (under_trans p (child_under p hb) ub) l)

          all_at : {g b : ℕ} (a : ℕ) → Child p g b → T (p.order a b) → p.tree.kind g ≡ all_of
          all_at {g} {b} a hb y = let (g', k, ha', hb') = w.order_group a b y in rw (sym hb.up ∙ hb'.up) k

      enabled_in : {e : Event} → Enabled q n (status_after r) e → Enabled p n (status_after r) e
      enabled_in (can_start m) = can_start record {
        is_task = kind_of_lem m.beneath ∙ m.is_task;
        beneath = under_listed itself m.beneath;
        waits = m.waits;
        ready = ready_in (under_node q th.present m.beneath) m.ready;
      }
      enabled_in (can_finish m) = can_finish record {
        is_task = kind_of_lem m.beneath ∙ m.is_task;
        beneath = under_listed itself m.beneath;
        runs = m.runs;
      }
      enabled_in (can_skip m) = can_skip record {
        is_optional = kind_of_lem m.beneath ∙ m.is_optional;
        beneath = under_listed itself m.beneath;
        waits = m.waits;
        untaken = λ c hc y. let (l, z) = begun_out y in m.untaken c (child_out hc l) z;
        ready = ready_in (under_node q th.present m.beneath) m.ready;
      }

    -- every execution of the thinner plan is one of p, completed or not
    pub execution_in : {r : History} → Execution q n r → Execution p n r
    execution_in none_yet = none_yet
    execution_in (one_more x m) = one_more (execution_in x) (enabled_in x m)

    pub completed_in : {r : History} → Completed q n r → Completed p n r
    completed_in x = record { execution = execution_in x.execution; complete = complete_in_lem itself x.complete }

    -- what may happen in the thinner plan may happen in p; what must happen in p must happen in the thinner plan
    pub may_in : {P : History → Type 0} → May q n P → May p n P
    may_in m = record { history = m.history; completed = completed_in m.completed; holds = m.holds }

    pub may_pre_in : {f : ℕ} {v : Bool} → May q n (ExternalPre q f v) → May p n (ExternalPre p f v)
    may_pre_in m = record {
      history = m.history;
      completed = completed_in m.completed;
      holds = pre_over q p.tree p.order m.holds;
    }

    pub must_pre_out : {f : ℕ} {v : Bool} → Must p n (ExternalPre p f v) → Must q n (ExternalPre q f v)
    must_pre_out m r x = pre_over p t o (m r (completed_in x))

    silent_out : {f b : ℕ} → Under q n b → Silent p f b → Silent q f b
    silent_out ub s e k u = s e (kind_of_lem (under_trans q ub u) ∙ k) (under_listed ub u)

    -- the children of an all_of group and their orders
    module _ (k : p.tree.kind n ≡ all_of) where
      part_out : {c : ℕ} → Child p n c → Child q n c
      part_out {c} hc = th.all_parts n c itself (sym (kind_of_lem itself) ∙ k) hc

      before_out : {a b : ℕ} → Child p n b → Before p a b → Before q a b
      before_out hb (direct {a = a} {b = b} x) =
          direct (th.all_orders n a b itself (part_out (order_child p w a hb x)) (part_out hb) x)
      before_out hb (chain {a = a} {b = b} x y) = let hb' : Child p n b = before_child p w hb y in
          chain (th.all_orders n a b itself (part_out (order_child p w a hb' x)) (part_out hb') x) (before_out hb y)

      unordered_in : {a b : ℕ} → Child p n a → Child p n b → Unordered q a b → Unordered p a b
      unordered_in ha hb x = record {
        distinct = x.distinct;
        not_before = λ y. x.not_before (before_out hb y);
        not_after = λ y. x.not_after (before_out ha y);
      }

  concurrent_in : {y z n : ℕ} → Thinner p t o n → Concurrent q y z n → Concurrent p y z n
  concurrent_in {n} th (at_group k c d hc hd un uy uz) = let kp = kind_of_lem th itself ∙ k in
      let hcp = th.no_other n c itself hc in let hdp = th.no_other n d itself hd in
      at_group kp c d hcp hdp (unordered_in th kp hcp hdp un)
      (under_listed th (child_under q hc) uy) (under_listed th (child_under q hd) uz)
  concurrent_in {n} th (deeper c hc x) =
      deeper c (th.no_other n c itself hc) (concurrent_in (thinner_below p t o th (child_under q hc)) x)

  pub may_clobber_listed : {n f : ℕ} {v : Bool} → Thinner p t o n → MayClobber q f v n → MayClobber p f v n
  may_clobber_listed th (inl m) = inl (record {
    history = m.history;
    event = m.event;
    execution = execution_in th m.execution;
    clobbers = clobbers_over q p.tree p.order m.clobbers;
  })
  may_clobber_listed th (inr m) =
      inr (record {
        who = m.who;
        other = m.other;
        concurrent = concurrent_in th m.concurrent;
        leaves = m.leaves;
        opposes = m.opposes;
      })

  pub must_clobber_out : {f : ℕ} {v : Bool} {n : ℕ} → Thinner p t o n → MustClobber p f v n → MustClobber q f v n
  must_clobber_out {n} th (by_any_of k a) = by_any_of (sym (kind_of_lem th itself) ∙ k)
      (λ c hc. must_clobber_out (thinner_below p t o th (child_under q hc)) (a c (th.no_other n c itself hc)))
  must_clobber_out {n} th (by_child k c hc d u) = let hq : Child q n c = part_out th k hc in
      by_child (sym (kind_of_lem th itself) ∙ k) c hq (must_clobber_out (thinner_below p t o th (child_under q hq)) d)
      (λ b hb x. let hp : Child p n b = th.no_other n b itself hb in
      silent_out th (child_under q hb) (u b hp (unordered_in th k hp hc x)))
  must_clobber_out {n} th (by_pair k c d hc hd y mp mn u) = let hcq : Child q n c = part_out th k hc in
      let hdq : Child q n d = part_out th k hd in
      by_pair (sym (kind_of_lem th itself) ∙ k) c d hcq hdq (before_out th k hc y)
      (λ r x. mp r (completed_in (thinner_below p t o th (child_under q hdq)) x))
      (must_pre_out (thinner_below p t o th (child_under q hcq)) mn)
      (λ b hb k₁ k₂ k₃ k₄. let hp : Child p n b = th.no_other n b itself hb in
      silent_out th (child_under q hb) (u b hp k₁ k₂ (λ z. k₃ (before_out th k hd z)) (λ z. k₄ (before_out th k hp z))))

  -- CLEAR stays CLEAR and DOOMED stays DOOMED
  pub thinner_keeps : Thinner p t o 0 → Keeps p q
  thinner_keeps th = record {
    clear = λ F c. record {
      no_clobber = λ f v x. c.no_clobber f v (may_clobber_listed th x);
      no_pre = λ f v y x. c.no_pre f v y (may_pre_in th x);
    };
    doomed = doomed;
  }
    where
      doomed : (F : ℕ → Bool) → Doomed p F → Doomed q F
      doomed F (by_clobber f v d) = by_clobber f v (must_clobber_out th d)
      doomed F (by_start f v x m) = by_start f v x (must_pre_out th m)
