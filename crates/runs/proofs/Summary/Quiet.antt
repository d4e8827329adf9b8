-- Quiet (`MayQuiet`): its rules by children. At a choice it is `may_any`, `may_optional` with `quiet_skip`.
use Rattle.runs.proofs.Base.{◌≡◌, inl, ◌↔◌, Iff·trans, [], ◌++◌, append-nil, ℕ, T}
use Rattle.runs.proofs.Summary.MayMust.{whole, skip_only, may_task}
use Rattle.runs.specs.Plan.{task, all_of, Plan, Child, Node}
use Rattle.runs.specs.WellFormed.{WellFormed}
use Rattle.runs.specs.Execution.{Event, start, finish, skip, all_done, none_yet}
use Rattle.runs.specs.Classes.{All, all_nil, all_cons, Anything, MayQuiet}
use Rattle.runs.proofs.Execution.{all_append, all_anything, part, part_nil, part_all, part_completed}
use Rattle.runs.proofs.Execution.{Staged, stage, completed_execution}

module _ (p : Plan) (w : WellFormed p) (Q : Event → Type 0) where
  -- task: start and finish are in Q
  pub quiet_task : {n : ℕ} → p.tree.kind n ≡ task → MayQuiet p Q n ↔ (Q (start n) × Q (finish n))
  quiet_task {n} k = Iff·trans (may_task p w (All Q) k) (to, λ q. all_cons q.1 (all_cons q.0 all_nil))
    where
      to : All Q (whole n) → Q (start n) × Q (finish n)
      to (all_cons b (all_cons a c)) = (a, b)

  -- optional, the skip alone: it is in Q
  pub quiet_skip : (n : ℕ) → All Q (skip_only n) ↔ Q (skip n)
  quiet_skip n = (to, λ q. all_cons q all_nil)
    where
      to : All Q (skip_only n) → Q (skip n)
      to (all_cons q a) = q

  -- a closed set of children can be completed from nothing, each quietly
  pub quiet_stage : {n : ℕ} → p.tree.kind n ≡ all_of → (D : ℕ → Type 0) → ((c : ℕ) → Dec (D c))
      → ((a b : ℕ) → Child p n a → Child p n b → D b → T (p.order a b) → D a)
      → ((c : ℕ) → Child p n c → D c → MayQuiet p Q c) → Staged p w Q n [] D
  quiet_stage {n} k D dec_d closed history = stage p w Q n k [] D dec_d
      (λ c hc d. let m = history c hc d in
      (m.history, rw (part_nil p w c, append-nil m.history) m.completed, m.holds))
      (λ a b ha hb db o. inl (closed a b ha hb db o)) none_yet

  -- all_of: every child is quiet
  pub quiet_all : {n : ℕ} → p.tree.kind n ≡ all_of → MayQuiet p Q n ↔ ((c : ℕ) → Child p n c → MayQuiet p Q c)
  quiet_all {n} k = (
    λ m c hc. record {
      history = part p w c m.history;
      completed = part_completed p w k m.completed hc;
      holds = part_all p w c m.holds;
    },
    λ r. build (quiet_stage k (λ c. Unit {0}) (λ c. yes tt) (λ a b ha hb d o. tt) (λ c hc d. r c hc)),
  )
    where
      build : Staged p w Q n [] (λ c. Unit {0}) → MayQuiet p Q n
      build s = record {
        history = s.more ++ [];
        completed = record {
          execution = s.execution;
          complete = all_done k (λ c hc. s.got c hc tt);
        };
        holds = all_append s.good all_nil;
      }

-- every node has a completed execution, of which nothing is asked
pub quiet_anything : (p : Plan) (w : WellFormed p) (n : ℕ) → Node p n → MayQuiet p Anything n
quiet_anything p w n l = let (h, x) = completed_execution p w n l in
    record { history = h; completed = x; holds = all_anything h }
