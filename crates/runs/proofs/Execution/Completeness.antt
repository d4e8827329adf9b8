-- Complete nodes: what completes a node of each kind; what is complete has begun; what is done stays done.
use Rattle.runs.proofs.Base.{◌≡◌, refl, ◌≢◌, ℕ, ◌<◌}
use Rattle.runs.specs.Plan.{Kind, task, all_of, any_of, optional, Picks, Moves, Plan, itself, Node, Child, Under}
use Rattle.runs.specs.WellFormed.{WellFormed}
use Rattle.runs.specs.Execution.{Status, waiting, done, State, task_done, all_done, any_done, skip_done, Complete}
use Rattle.runs.specs.Execution.{Begun}
use Rattle.runs.proofs.Reflect.{clash}
use Rattle.runs.proofs.Plan.{under_trans, child_under}

pub picks_any : {k : Kind} → k ≡ any_of → Picks k
picks_any k = rw k tt

pub picks_optional : {k : Kind} → k ≡ optional → Picks k
picks_optional k = rw k tt

-- the choices that are no optional groups, and those that events move
pub picks_other : (k : Kind) → k ≢ optional → Picks k → k ≡ any_of
picks_other task n x = absurd x
picks_other all_of n x = absurd x
picks_other any_of n x = refl
picks_other optional n x = absurd (n refl)

pub picks_moves : (k : Kind) → Picks k → Moves k → k ≡ optional
picks_moves task x y = absurd x
picks_moves all_of x y = absurd x
picks_moves any_of x y = absurd y
picks_moves optional x y = refl

pub done_moved : {s : Status} → s ≡ done → s ≢ waiting
done_moved d q = clash cc

module _ (p : Plan) where
  pub complete_task : {s : State} {n : ℕ} → p.tree.kind n ≡ task → Complete p s n → s n ≡ done
  complete_task k (task_done k' d) = d
  complete_task k (all_done k' f) = clash cc
  complete_task k (any_done x k' hx d) = absurd (rw k at k')
  complete_task k (skip_done k' d) = clash cc

  pub complete_all : {s : State} {n : ℕ} → p.tree.kind n ≡ all_of → Complete p s n → (c : ℕ) → Child p n c
      → Complete p s c
  complete_all k (task_done k' d) c hc = clash cc
  complete_all k (all_done k' f) c hc = f c hc
  complete_all k (any_done x k' hx d) c hc = absurd (rw k at k')
  complete_all k (skip_done k' d) c hc = clash cc

  -- what completes a choice: a branch; or the skip of an optional group
  pub data PickDone (s : State) (n : ℕ) : Type 0 where
    branch_done : (c : ℕ) → Child p n c → Complete p s c → PickDone s n
    group_skipped : p.tree.kind n ≡ optional → s n ≡ done → PickDone s n

  pub complete_pick : {s : State} {n : ℕ} → Picks (p.tree.kind n) → Complete p s n → PickDone s n
  complete_pick k (task_done k' d) = absurd (rw k' at k)
  complete_pick k (all_done k' f) = absurd (rw k' at k)
  complete_pick k (any_done x k' hx d) = branch_done x hx d
  complete_pick k (skip_done k' d) = group_skipped k' d

  pub complete_mono : (s r : State) {n : ℕ} → ((x : ℕ) → s x ≡ done → r x ≡ done) → Complete p s n → Complete p r n
  complete_mono s r {n} m (task_done k d) = task_done k (m n d)
  complete_mono s r m (all_done k f) = all_done k (λ c hc. complete_mono s r m (f c hc))
  complete_mono s r m (any_done c k hc d) = any_done c k hc (complete_mono s r m d)
  complete_mono s r {n} m (skip_done k d) = skip_done k (m n d)

  begun_up : {n c : ℕ} {s : State} → Under p n c → Begun p s c → Begun p s n
  begun_up u t = record { who = t.who; moves = t.moves; beneath = under_trans p u t.beneath; begun = t.begun }

  -- what is complete has begun (of the root it may be false: an all_of root need not have a child)
  pub complete_begun : {s : State} {n : ℕ} → WellFormed p → 0 < n → Node p n → Complete p s n → Begun p s n
  complete_begun {s} {n} w z l (task_done k d) =
      record { who = n; moves = rw k tt; beneath = itself; begun = done_moved d }
  complete_begun {s} {n} w z l (all_done k f) = let (c, hc) = w.some_part n z l k in
      begun_up (child_under p hc) (complete_begun w hc.not_root hc.node (f c hc))
  complete_begun {s} {n} w z l (any_done c k hc d) =
      begun_up (child_under p hc) (complete_begun w hc.not_root hc.node d)
  complete_begun {s} {n} w z l (skip_done k d) = record {
    who = n;
    moves = rw k tt;
    beneath = itself;
    begun = done_moved d;
  }
