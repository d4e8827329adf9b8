-- May and must, of any property of a history, at a task and at a choice.
use Rattle.runs.proofs.Base.{◌≡◌, ◌⊎◌, inl, inr, ◌↔◌, Iff·trans, [], ◌∷◌, ℕ}
use Rattle.runs.specs.Plan.{task, any_of, optional, Plan, Child}
use Rattle.runs.specs.WellFormed.{WellFormed}
use Rattle.runs.specs.Execution.{start, finish, skip, History}
use Rattle.runs.specs.Summary.{May, Must}
use Rattle.runs.proofs.Execution.{any_completed, completed_pick, task_ended, task_completed, picks_any}
use Rattle.runs.proofs.Execution.{picks_optional, pick_completed}
use Rattle.runs.proofs.Execution.{CompletedOf, completed_through, completed_skipped, skip_completed}

-- a task's one completed execution
abbrev pub whole : ℕ → History
whole n = finish n ∷ start n ∷ []

-- an optional group's completed execution that is its skip alone
abbrev pub skip_only : ℕ → History
skip_only n = skip n ∷ []

module _ (p : Plan) (w : WellFormed p) (P : History → Type 0) where
  -- a task: its one completed execution has the property
  pub may_task : {n : ℕ} → p.tree.kind n ≡ task → May p n P ↔ P (whole n)
  may_task {n} k = (
    λ m. rw (task_completed p w k m.completed) at m.holds,
    λ x. record { history = whole n; completed = task_ended p w k; holds = x },
  )

  pub must_task : {n : ℕ} → p.tree.kind n ≡ task → Must p n P ↔ P (whole n)
  must_task {n} k = (λ m. m (whole n) (task_ended p w k), λ x h y. rw (task_completed p w k y) x)

  -- any_of: in some branch, in every branch
  pub may_any : {n : ℕ} → p.tree.kind n ≡ any_of → May p n P ↔ ((c : ℕ) × Child p n c × May p c P)
  may_any k = (
    λ m. let (c, hc, x) = any_completed p w k m.completed in
        (c, hc, record { history = m.history; completed = x; holds = m.holds }),
    λ x. record {
      history = x.2.history;
      completed = completed_pick p w (picks_any k) x.1 x.2.completed;
      holds = x.2.holds;
    },
  )

  pub must_any : {n : ℕ} → p.tree.kind n ≡ any_of → Must p n P ↔ ((c : ℕ) → Child p n c → Must p c P)
  must_any k = (
    λ m c hc h x. m h (completed_pick p w (picks_any k) hc x),
    λ g h x. let (c, hc, y) = any_completed p w k x in g c hc h y,
  )

  -- optional: in some branch, or in the skip alone; in every branch, and in the skip alone
  pub may_optional : {n : ℕ} → p.tree.kind n ≡ optional
      → May p n P ↔ (((c : ℕ) × Child p n c × May p c P) ⊎ P (skip_only n))
  may_optional {n} k = (
    λ m. to m.history ((pick_completed p w m.history (picks_optional k)).0 m.completed) m.holds,
    from,
  )
    where
      to : (h : History) → CompletedOf p w n h → P h → ((c : ℕ) × Child p n c × May p c P) ⊎ P (skip_only n)
      to h (completed_through c hc x) y = inl (c, hc, record { history = h; completed = x; holds = y })
      to h (completed_skipped kn q) y = inr (rw q at y)

      from : ((c : ℕ) × Child p n c × May p c P) ⊎ P (skip_only n) → May p n P
      from (inl (c, hc, m)) = record {
        history = m.history;
        completed = completed_pick p w (picks_optional k) hc m.completed;
        holds = m.holds;
      }
      from (inr x) = record { history = skip_only n; completed = skip_completed p w k; holds = x }

  pub must_optional : {n : ℕ} → p.tree.kind n ≡ optional
      → Must p n P ↔ (((c : ℕ) → Child p n c → Must p c P) × P (skip_only n))
  must_optional {n} k = (
    λ m. (λ c hc h x. m h (completed_pick p w (picks_optional k) hc x), m (skip_only n) (skip_completed p w k)),
    λ g h x. from g h ((pick_completed p w h (picks_optional k)).0 x),
  )
    where
      from : ((c : ℕ) → Child p n c → Must p c P) × P (skip_only n) → (h : History) → CompletedOf p w n h → P h
      from g h (completed_through c hc x) = g.0 c hc h x
      from g h (completed_skipped kn q) = rw q g.1

  -- optional, of a property that the skip alone has not: in some branch; not in every completed execution
  module _ {n : ℕ} (k : p.tree.kind n ≡ optional) (x : ¬ P (skip_only n)) where
    pub may_branch : May p n P ↔ ((c : ℕ) × Child p n c × May p c P)
    may_branch = Iff·trans (may_optional k) (to, λ y. inl y)
      where
        to : ((c : ℕ) × Child p n c × May p c P) ⊎ P (skip_only n) → (c : ℕ) × Child p n c × May p c P
        to (inl y) = y
        to (inr z) = absurd (x z)

    pub must_never : ¬ Must p n P
    must_never m = x ((must_optional k).0 m).1
