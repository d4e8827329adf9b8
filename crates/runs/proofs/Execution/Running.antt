-- What has moved is a task or an optional group under the node; nothing runs under a complete node; what runs has
-- started.
use Rattle.runs.proofs.Base.{◌≡◌, sym, ◌∙◌, ◌≢◌, [], ◌∷◌, ℕ, ℕ_discrete}
use Rattle.runs.specs.Plan.{task, Moves, Plan, Node, Under}
use Rattle.runs.specs.WellFormed.{WellFormed}
use Rattle.runs.specs.Execution.{Status, waiting, running, done, State, Event, start, finish, skip, History}
use Rattle.runs.specs.Execution.{node_of, status_after, Complete, Enabled, can_finish, Execution, none_yet}
use Rattle.runs.specs.Execution.{one_more, Earlier, none_later, one_later}
use Rattle.runs.proofs.Reflect.{clash}
use Rattle.runs.proofs.Plan.{dec_under}
use Rattle.runs.proofs.Execution.Histories.{after_nil, after_same, after_other}
use Rattle.runs.proofs.Execution.Locality.{enabled_of_kind, enabled_moves}
use Rattle.runs.proofs.Execution.Parts.{execution_last, earlier_execution}
use Rattle.runs.proofs.Execution.AnyOf.{execution_outside}
use Rattle.runs.proofs.Execution.Final.{final}

-- what runs after a history has started in it
pub running_started : (h : History) (t : ℕ) → status_after h t ≡ running → (r : History) × Earlier (start t ∷ r) h
running_started [] t q = let x : status_after [] t ≡ waiting = after_nil t in clash cc
running_started (e ∷ h) t q = go e (ℕ_discrete t (node_of e)) q (λ y. running_started h t y)
  where
    go : (e : Event) → Dec (t ≡ node_of e) → status_after (e ∷ h) t ≡ running
        → (status_after h t ≡ running → (r : History) × Earlier (start t ∷ r) h)
        → (r : History) × Earlier (start t ∷ r) (e ∷ h)
    go e (no k) q ih = let (r, x) = ih (sym (after_other e h t k) ∙ q) in (r, one_later x)
    go (start x) (yes k) q ih = (h, rw k none_later)
    go (finish x) (yes k) q ih = let y : status_after (finish x ∷ h) x ≡ done = after_same (finish x) h in
        let u : status_after (finish x ∷ h) x ≡ running = rw k at q in clash cc
    go (skip x) (yes k) q ih = let y : status_after (skip x ∷ h) x ≡ done = after_same (skip x) h in
        let u : status_after (skip x ∷ h) x ≡ running = rw k at q in clash cc

pub running_moved : {s : Status} → s ≡ running → s ≢ waiting
running_moved q z = clash cc

-- what can finish runs
pub finish_runs : {p : Plan} {n t : ℕ} {s : State} → Enabled p n s (finish t) → s t ≡ running
finish_runs (can_finish m) = m.runs

module _ (p : Plan) (w : WellFormed p) where
  -- what has moved is a task or an optional group
  pub moved_moves : {n : ℕ} {h : History} → Execution p n h → (x : ℕ) → status_after h x ≢ waiting
      → Moves (p.tree.kind x)
  moved_moves none_yet x ne = absurd (ne (after_nil x))
  moved_moves (one_more {e = e} {h = h} f m) x ne = go (ℕ_discrete x (node_of e)) (λ z. moved_moves f x z)
    where
      go : Dec (x ≡ node_of e) → (status_after h x ≢ waiting → Moves (p.tree.kind x)) → Moves (p.tree.kind x)
      go (yes q) ih = rw q (enabled_moves p m)
      go (no k) ih = ih (λ z. ne (after_other e h x k ∙ z))

  -- what runs is a task
  pub running_task : {n : ℕ} {h : History} → Execution p n h → (x : ℕ) → status_after h x ≡ running
      → p.tree.kind x ≡ task
  running_task {h = h} f x r =
      let (k, q) = running_started h x r in enabled_of_kind p (execution_last p w (earlier_execution p w q f))

  -- and it is under the node
  pub moved_under : {n : ℕ} {h : History} → Execution p n h → (x : ℕ) → status_after h x ≢ waiting → Under p n x
  moved_under {n} f x ne = go (dec_under p w n x)
    where
      go : Dec (Under p n x) → Under p n x
      go (yes u) = u
      go (no k) = absurd (ne (execution_outside p w f x k))

  -- what runs can finish
  pub running_finish : {n : ℕ} {h : History} → Execution p n h → (x : ℕ) → status_after h x ≡ running
      → Enabled p n (status_after h) (finish x)
  running_finish f x q = can_finish record {
    is_task = running_task f x q;
    beneath = moved_under f x (running_moved q);
    runs = q;
  }

  -- nothing runs under a complete node
  pub none_runs : {n : ℕ} {h : History} → Node p n → Execution p n h → Complete p (status_after h) n → (x : ℕ)
      → status_after h x ≡ running → ⊥
  none_runs {n} {h} l f d x q = final p w n l (finish x) h (one_more f (running_finish f x q)) d
