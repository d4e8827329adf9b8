-- The executions of a task: nothing, its start, its start and its finish.
use Rattle.runs.proofs.Base.{◌≡◌, refl, [], ◌∷◌, ℕ}
use Rattle.runs.specs.Plan.{task, optional, Plan}
use Rattle.runs.specs.WellFormed.{WellFormed}
use Rattle.runs.specs.Execution.{waiting, running, done, Event, start, finish, History, status_after, Enabled}
use Rattle.runs.specs.Execution.{can_start, can_finish, can_skip}
use Rattle.runs.specs.Execution.{Execution, none_yet, one_more, Completed}
use Rattle.runs.proofs.Reflect.{clash}
use Rattle.runs.proofs.Execution.Histories.{after_nil, after_same}
use Rattle.runs.proofs.Execution.Completion.{task_start, task_finish}
use Rattle.runs.proofs.Execution.Final.{under_task}
use Rattle.runs.proofs.Execution.Completeness.{complete_task}

-- the executions of a task
pub data TaskExecution (n : ℕ) : History → Type 0 where
  idle : TaskExecution n []
  begun : TaskExecution n (start n ∷ [])
  ended : TaskExecution n (finish n ∷ start n ∷ [])

module _ (p : Plan) (w : WellFormed p) where
  task_next : {n : ℕ} {e : Event} {h : History} → p.tree.kind n ≡ task → TaskExecution n h
      → Enabled p n (status_after h) e → TaskExecution n (e ∷ h)
  task_next {n} k x (can_skip {g = g} s) =
      let y : n ≡ g = under_task p w k s.beneath in let z : p.tree.kind g ≡ optional = s.is_optional in clash cc
  task_next {n} k idle (can_start {t = t} s) = rw (← (under_task p w k s.beneath)) begun
  task_next {n} k idle (can_finish {t = t} s) = let y : status_after [] t ≡ running = s.runs in
      let z : status_after [] t ≡ waiting = after_nil t in
      clash cc
  task_next {n} k begun (can_start {t = t} s) = let x : n ≡ t = under_task p w k s.beneath in
      let y : status_after (start n ∷ []) t ≡ waiting = s.waits in
      let z : status_after (start n ∷ []) n ≡ running = after_same (start n) [] in clash cc
  task_next {n} k begun (can_finish {t = t} s) = rw (← (under_task p w k s.beneath)) ended
  task_next {n} k ended (can_start {t = t} s) = let x : n ≡ t = under_task p w k s.beneath in
      let y : status_after (finish n ∷ start n ∷ []) t ≡ waiting = s.waits in
      let z : status_after (finish n ∷ start n ∷ []) n ≡ done = after_same (finish n) (start n ∷ []) in clash cc
  task_next {n} k ended (can_finish {t = t} s) = let x : n ≡ t = under_task p w k s.beneath in
      let y : status_after (finish n ∷ start n ∷ []) t ≡ running = s.runs in
      let z : status_after (finish n ∷ start n ∷ []) n ≡ done = after_same (finish n) (start n ∷ []) in clash cc

  pub task_execution : {n : ℕ} {h : History} → p.tree.kind n ≡ task → Execution p n h → TaskExecution n h
  task_execution k none_yet = idle
  task_execution k (one_more f m) = task_next k (task_execution k f) m

  pub task_begun : {n : ℕ} → p.tree.kind n ≡ task → Execution p n (start n ∷ [])
  task_begun {n} k = task_start p w k (after_nil n) none_yet

  pub task_ended : {n : ℕ} → p.tree.kind n ≡ task → Completed p n (finish n ∷ start n ∷ [])
  task_ended {n} k = task_finish p w k (after_same (start n) []) (task_begun k)

  -- a task has one completed execution
  pub task_completed : {n : ℕ} {h : History} → p.tree.kind n ≡ task → Completed p n h → h ≡ finish n ∷ start n ∷ []
  task_completed {n} k x = go (task_execution k x.execution) (complete_task p k x.complete)
    where
      go : {h : History} → TaskExecution n h → status_after h n ≡ done → h ≡ finish n ∷ start n ∷ []
      go idle q = let z : status_after [] n ≡ waiting = after_nil n in clash cc
      go begun q = let z : status_after (start n ∷ []) n ≡ running = after_same (start n) [] in clash cc
      go ended q = refl
