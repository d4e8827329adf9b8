-- Every execution extends to a completed one, so every node has one.
use Rattle.runs.proofs.Base.{◌≡◌, refl, ◌⊎◌, inl, inr, [], ◌∷◌, ◌++◌, ℕ}
use Rattle.runs.specs.Plan.{Kind, task, all_of, any_of, optional, Picks, Plan, itself, Node, Child}
use Rattle.runs.specs.WellFormed.{WellFormed}
use Rattle.runs.specs.Execution.{Status, waiting, running, done, start, finish, skip, History, status_after}
use Rattle.runs.specs.Execution.{task_done, all_done, any_done, can_start, can_finish, Execution, none_yet}
use Rattle.runs.specs.Execution.{one_more, Completed}
use Rattle.runs.proofs.Plan.{child_under, from_leaves}
use Rattle.runs.specs.Classes.{Anything}
use Rattle.runs.proofs.Execution.Histories.{after_same, all_anything}
use Rattle.runs.proofs.Execution.Locality.{own_ready}
use Rattle.runs.proofs.Execution.Parts.{part, part_execution}
use Rattle.runs.proofs.Execution.AnyOf.{pick_join, skip_completed, OneOf, through, skipped, pick_execution}
use Rattle.runs.proofs.Execution.Stages.{Staged, stage}
use Rattle.runs.proofs.Execution.Completeness.{picks_any, picks_optional}

module _ (p : Plan) (w : WellFormed p) where
  pub record Extended (n : ℕ) (h : History) : Type 0 where
    pub more : History
    pub completed : Completed p n (more ++ h)

  -- a task
  pub task_start : {n : ℕ} {h : History} → p.tree.kind n ≡ task → status_after h n ≡ waiting → Execution p n h
      → Execution p n (start n ∷ h)
  task_start {n} {h} k q f = one_more f
      (can_start record { is_task = k; beneath = itself; waits = q; ready = own_ready p w (status_after h) n })

  pub task_finish : {n : ℕ} {h : History} → p.tree.kind n ≡ task → status_after h n ≡ running → Execution p n h
      → Completed p n (finish n ∷ h)
  task_finish {n} {h} k q f = record {
    execution = one_more f (can_finish record { is_task = k; beneath = itself; runs = q });
    complete = task_done k (after_same (finish n) h);
  }

  grow_task : {n : ℕ} (h : History) → p.tree.kind n ≡ task → Execution p n h → Extended n h
  grow_task {n} h k f = go (status_after h n) refl
    where
      go : (s : Status) → status_after h n ≡ s → Extended n h
      go waiting q = record {
        more = finish n ∷ start n ∷ [];
        completed = task_finish k (after_same (start n) h) (task_start k q f);
      }
      go running q = record { more = finish n ∷ []; completed = task_finish k q f }
      go done q = record { more = []; completed = record { execution = f; complete = task_done k q } }

  lift_grown : {n c : ℕ} {r : History} → Picks (p.tree.kind n) → Child p n c → Extended c r → Extended n r
  lift_grown {c = c} k hc g = record {
    more = g.more;
    completed = record {
      execution = pick_join p w k hc g.completed.execution;
      complete = any_done c k hc g.completed.complete;
    };
  }

  first_any : {n : ℕ} → Node p n → p.tree.kind n ≡ any_of
      → ((c : ℕ) → Child p n c → (r : History) → Execution p c r → Extended c r) → Extended n []
  first_any {n} l k ih = let (c, hc) = w.some_branch n l k in lift_grown (picks_any k) hc (ih c hc [] none_yet)

  -- a choice: what begins it, and how it goes on
  grow_pick : {n : ℕ} (h : History) → Picks (p.tree.kind n) → Extended n []
      → ((c : ℕ) → Child p n c → (r : History) → Execution p c r → Extended c r) → Execution p n h → Extended n h
  grow_pick {n} h k first ih f = go h ((pick_execution p w h k).0 f)
    where
      go : (r : History) → (r ≡ []) ⊎ OneOf p w n r → Extended n r
      go r (inl q) = rw q first
      go r (inr (through c hc fc)) = lift_grown k hc (ih c hc r fc)
      go r (inr (skipped kn q)) = record { more = []; completed = rw q (skip_completed p w kn) }

  -- an all_of group: one stage, of all the children
  grow_all : (n : ℕ) → p.tree.kind n ≡ all_of
      → ((c : ℕ) → Child p n c → (r : History) → Execution p c r → Extended c r) → (h : History)
      → Execution p n h → Extended n h
  grow_all n k ih h f = build (stage p w Anything n k h (λ c. Unit {0}) (λ c. yes tt)
      (λ c hc d. let g : Extended c (part p w c h) = ih c hc (part p w c h) (part_execution p w (child_under p hc) f) in
      (g.more, g.completed, all_anything g.more)) (λ a b ha hb d o. inl tt) f)
    where
      build : Staged p w Anything n h (λ c. Unit {0}) → Extended n h
      build s = record {
        more = s.more;
        completed = record { execution = s.execution; complete = all_done k (λ c hc. s.got c hc tt) };
      }

  -- every execution of a node extends to a completed one
  pub extends : (n : ℕ) → Node p n → (h : History) → Execution p n h → Extended n h
  extends = from_leaves p w (λ n. (h : History) → Execution p n h → Extended n h) step
    where
      step : (n : ℕ) → Node p n → ((c : ℕ) → Child p n c → (h : History) → Execution p c h → Extended c h)
          → (h : History) → Execution p n h → Extended n h
      step n l ih h f = go (p.tree.kind n) refl
        where
          go : (k : Kind) → p.tree.kind n ≡ k → Extended n h
          go task k = grow_task h k f
          go all_of k = grow_all n k ih h f
          go any_of k = grow_pick h (picks_any k) (first_any l k ih) ih f
          go optional k =
              grow_pick h (picks_optional k) (record { more = skip n ∷ []; completed = skip_completed p w k }) ih f

  -- so every node has a completed execution
  pub completed_execution : (n : ℕ) → Node p n → (h : History) × Completed p n h
  completed_execution n l = let g : Extended n [] = extends n l [] none_yet in (g.more ++ [], g.completed)
