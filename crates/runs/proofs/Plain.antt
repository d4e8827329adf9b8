-- Plans without optional groups, those of 01: their free runs, whole free runs and refusals are the ones that 01
-- defines without 02's skips, and a skip call changes nothing. Where nothing is left opposite ways, mark 6 is 01's.
use Rattle.runs.proofs.Base.{◌≡◌, refl, sym, ◌≢◌, inl, inr, ◌↔◌, Bool, not, some, [], ◌∷◌, ℕ, T}
use Rattle.runs.specs.Plan.{Kind, task, all_of, any_of, optional, Moves, post, Plan, Node, Child, Under}
use Rattle.runs.specs.WellFormed.{WellFormed}
use Rattle.runs.specs.Execution.{waiting, running, done, State, Event, start, finish, skip, History, status_after}
use Rattle.runs.specs.Execution.{task_done, all_done, any_done, skip_done, Complete, Begun, Rival, by_branch}
use Rattle.runs.specs.Execution.{by_skip, Ready, Enabled, can_start, can_finish, can_skip, Execution, none_yet}
use Rattle.runs.specs.Execution.{one_more, Completed}
use Rattle.runs.specs.Summary.{Clobbered, MayClobber}
use Rattle.runs.specs.Calls.{one, World, BranchBegun, OrderOpen, Answered, accepted, refused}
use Rattle.runs.proofs.Plan.{under_node, child_parent}
use Rattle.runs.proofs.Execution.{picks_any, picks_other}

-- ---- 01's words, as they stood before 02
module _ (p : Plan) where
  pub data CompleteBase (s : State) : ℕ → Type 0 where
    task_base : {n : ℕ} → p.tree.kind n ≡ task → s n ≡ done → CompleteBase s n
    all_base : {n : ℕ} → p.tree.kind n ≡ all_of → ((c : ℕ) → Child p n c → CompleteBase s c) → CompleteBase s n
    any_base : {n : ℕ} (c : ℕ) → p.tree.kind n ≡ any_of → Child p n c → CompleteBase s c → CompleteBase s n

  pub record BegunBase (s : State) (b : ℕ) : Type 0 where
    pub who : ℕ
    pub is_task : p.tree.kind who ≡ task
    pub beneath : Under p b who
    pub begun : s who ≢ waiting

  -- another branch of g than b is taken
  abbrev pub RivalBase : State → ℕ → ℕ → Type 0
  RivalBase s g b = (c : ℕ) × Child p g c × (c ≢ b) × BegunBase s c

  pub record ReadyBase (n : ℕ) (s : State) (t : ℕ) : Type 0 where
    pub choice : (g b : ℕ) → p.tree.kind g ≡ any_of → Under p n g → Child p g b → Under p b t → ¬ RivalBase s g b
    pub ordered : (g a b : ℕ) → Under p n g → Child p g a → Child p g b → T (p.order a b) → Under p b t
        → CompleteBase s a

  abbrev pub EnabledBase : ℕ → State → Event → Type 0
  EnabledBase n s (start t) = (p.tree.kind t ≡ task) × Under p n t × (s t ≡ waiting) × ReadyBase n s t
  EnabledBase n s (finish t) = (p.tree.kind t ≡ task) × Under p n t × (s t ≡ running)
  EnabledBase n s (skip g) = ⊥

  pub data ExecutionBase (n : ℕ) : History → Type 0 where
    none_base : ExecutionBase n []
    more_base : {e : Event} {h : History} → ExecutionBase n h → EnabledBase n (status_after h) e
        → ExecutionBase n (e ∷ h)

-- no node is an optional group
abbrev pub Plain : Plan → Type 0
Plain p = (n : ℕ) → Node p n → p.tree.kind n ≢ optional

move_task : (k : Kind) → k ≢ optional → Moves k → k ≡ task
move_task task n x = refl
move_task all_of n x = absurd x
move_task any_of n x = absurd x
move_task optional n x = absurd (n refl)

module _ (p : Plan) (w : WellFormed p) (plain : Plain p) where
  -- ---- complete, taken, another branch taken
  complete_to : {s : State} {n : ℕ} → Node p n → Complete p s n → CompleteBase p s n
  complete_to l (task_done k d) = task_base k d
  complete_to l (all_done k f) = all_base k (λ c hc. complete_to hc.node (f c hc))
  complete_to {n = n} l (any_done c k hc d) = any_base c (picks_other _ (plain n l) k) hc (complete_to hc.node d)
  complete_to {n = n} l (skip_done k d) = absurd (plain n l k)

  complete_from : {s : State} {n : ℕ} → CompleteBase p s n → Complete p s n
  complete_from (task_base k d) = task_done k d
  complete_from (all_base k f) = all_done k (λ c hc. complete_from (f c hc))
  complete_from (any_base c k hc d) = any_done c (picks_any k) hc (complete_from d)

  pub plain_complete : (s : State) (n : ℕ) → Node p n → Complete p s n ↔ CompleteBase p s n
  plain_complete s n l = (complete_to l, complete_from)

  pub plain_begun : (s : State) (b : ℕ) → Node p b → Begun p s b ↔ BegunBase p s b
  plain_begun s b l = (
    λ x. record {
      who = x.who;
      is_task = move_task _ (plain x.who (under_node p l x.beneath)) x.moves;
      beneath = x.beneath;
      begun = x.begun;
    },
    λ x. record { who = x.who; moves = rw x.is_task tt; beneath = x.beneath; begun = x.begun },
  )

  pub plain_rival : (s : State) (g b : ℕ) → Node p g → Rival p s g b ↔ RivalBase p s g b
  plain_rival s g b l = (to, λ (c, hc, ne, x). by_branch c hc ne ((plain_begun s c hc.node).1 x))
    where
      to : Rival p s g b → RivalBase p s g b
      to (by_branch c hc ne x) = (c, hc, ne, (plain_begun s c hc.node).0 x)
      to (by_skip k d) = absurd (plain g l k)

  -- ---- 19 and 20
  pub plain_branch : (s : State) (t : ℕ) → BranchBegun p s t ↔
      ((g : ℕ) × (b : ℕ) × (p.tree.kind g ≡ any_of) × Child p g b × Under p b t × RivalBase p s g b)
  plain_branch s t = (
    λ x. let l = child_parent p w x.own_child in (
      x.group,
      x.own,
      picks_other _ (plain x.group l) x.picks,
      x.own_child,
      x.above,
      (plain_rival s x.group x.own l).0 x.rival,
    ),
    λ (g, b, k, hb, u, r). record {
      group = g;
      own = b;
      picks = rw k tt;
      own_child = hb;
      above = u;
      rival = (plain_rival s g b (child_parent p w hb)).1 r;
    },
  )

  pub plain_order : (s : State) (t : ℕ) → OrderOpen p s t ↔
      ((a : ℕ) × (b : ℕ) × T (p.order a b) × Under p b t × (¬ CompleteBase p s a))
  plain_order s t = (
    λ x. (x.earlier, x.later, x.ordered, x.above, λ c. x.incomplete (complete_from c)),
    λ (a, b, o, u, n). record {
      earlier = a;
      later = b;
      ordered = o;
      above = u;
      incomplete = λ c. n (complete_to (w.order_group a b o).2.node c);
    },
  )

  ready_to : {n t : ℕ} {s : State} → Node p n → Ready p n s t → ReadyBase p n s t
  ready_to {s = s} l m = record {
    choice = λ g b k u hb v r. m.choice g b (rw k tt) u hb v ((plain_rival s g b (under_node p l u)).1 r);
    ordered = λ g a b u ha hb o v. complete_to ha.node (m.ordered g a b u ha hb o v);
  }

  ready_from : {n t : ℕ} {s : State} → Node p n → ReadyBase p n s t → Ready p n s t
  ready_from {s = s} l m = record {
    choice = λ g b k u hb v r. m.choice g b (picks_other _ (plain g (under_node p l u)) k) u hb v
        ((plain_rival s g b (under_node p l u)).0 r);
    ordered = λ g a b u ha hb o v. complete_from (m.ordered g a b u ha hb o v);
  }

  -- ---- free runs of a node, and whole ones
  module _ (n : ℕ) (l : Node p n) where
    pub plain_enabled : (s : State) (e : Event) → Enabled p n s e ↔ EnabledBase p n s e
    plain_enabled s e = (to, from e)
      where
        to : {e : Event} → Enabled p n s e → EnabledBase p n s e
        to (can_start m) = (m.is_task, m.beneath, m.waits, ready_to l m.ready)
        to (can_finish m) = (m.is_task, m.beneath, m.runs)
        to (can_skip {g = g} m) = plain g (under_node p l m.beneath) m.is_optional

        from : (e : Event) → EnabledBase p n s e → Enabled p n s e
        from (start t) (k, u, q, m) = can_start record { is_task = k; beneath = u; waits = q; ready = ready_from l m }
        from (finish t) (k, u, q) = can_finish record { is_task = k; beneath = u; runs = q }
        from (skip g) x = absurd x

    run_to : {h : History} → Execution p n h → ExecutionBase p n h
    run_to none_yet = none_base
    run_to (one_more {e = e} {h = h} f m) = more_base (run_to f) ((plain_enabled (status_after h) e).0 m)

    run_from : {h : History} → ExecutionBase p n h → Execution p n h
    run_from none_base = none_yet
    run_from (more_base {e = e} {h = h} f m) = one_more (run_from f) ((plain_enabled (status_after h) e).1 m)

    pub plain_execution : (h : History) → Execution p n h ↔ ExecutionBase p n h
    plain_execution h = (run_to, run_from)

    pub plain_completed : (h : History)
        → Completed p n h ↔ (ExecutionBase p n h × CompleteBase p (status_after h) n)
    plain_completed h = (
      λ x. (run_to x.execution, complete_to l x.complete),
      λ (f, c). record { execution = run_from f; complete = complete_from c },
    )

  -- ---- a skip is refused with 27, whatever is blocked
  pub plain_skip : {q : Plan} {a : World} {g : ℕ} {b : World} {n : ℕ} → Answered p q a (one (skip g)) n b → (n ≡ 27)
      × (b ≡ a)
  plain_skip {g = g} (accepted x) = absurd (x.0 (λ o. plain g o.node o.is_optional))
  plain_skip {g = g} (refused r (inl (e, x))) = (rw (sym e), refl)
  plain_skip {g = g} (refused r (inr (x, y))) = absurd (x (λ o. plain g o.node o.is_optional))

-- ---- where no two tasks leave a flag opposite ways, mark 6 is 01's: a clash in some free run
pub plain_clobber : (p : Plan) {n f : ℕ} {v : Bool}
    → ((t u : ℕ) → p.conditions.sign post t f ≡ some v → p.conditions.sign post u f ≢ some (not v))
    → MayClobber p f v n ↔ Clobbered p f v n
plain_clobber p {n} {f} {v} k = (to, inl)
  where
    to : MayClobber p f v n → Clobbered p f v n
    to (inl x) = x
    to (inr x) = absurd (k x.who x.other x.leaves x.opposes)
