-- The tree and the chains of orders as tests. Definitions only.
use Rattle.std.specs.Prelude.{Bool, true, false, ℕ, zero, suc, eqb, ltb}
use Rattle.std.proofs.Math.Bool.{decide}
use Rattle.runs.specs.Tests.{both, implies, negate, all_below}
use Rattle.runs.specs.Searches.{either, any_below}
use Rattle.runs.specs.Plan.{Kind, task, all_of, any_of, optional, Kind-discrete, Plan}

unfoldable pub kind_b : Kind → Kind → Bool
kind_b k j = decide (Kind-discrete k j)

-- the groups of which one branch is taken
unfoldable pub picks_b : Kind → Bool
picks_b task = false
picks_b all_of = false
picks_b any_of = true
picks_b optional = true

-- the nodes that events move
unfoldable pub moves_b : Kind → Bool
moves_b task = true
moves_b all_of = false
moves_b any_of = false
moves_b optional = true

-- a case for each kind
unfoldable pub by_kind : Kind → (Unit {0} → Bool) → (Unit {0} → Bool) → (Unit {0} → Bool) → (Unit {0} → Bool) → Bool
by_kind task x y z o = x tt
by_kind all_of x y z o = y tt
by_kind any_of x y z o = z tt
by_kind optional x y z o = o tt

module _ (p : Plan) where
  unfoldable pub child_b : ℕ → ℕ → Bool
  child_b g c = both (ltb 0 c) (λ u. both (p.tree.here c) (λ u. eqb (p.tree.parent c) g))

  unfoldable pub some_child_b : ℕ → (ℕ → Bool) → Bool
  some_child_b g t = any_below p.tree.size (λ c. both (child_b g c) (λ u. t c))

  unfoldable pub every_child_b : ℕ → (ℕ → Bool) → Bool
  every_child_b g t = all_below p.tree.size (λ c. implies (child_b g c) (λ u. t c))

  -- n under a, in at most k steps up
  unfoldable pub under_in : ℕ → ℕ → ℕ → Bool
  under_in zero a n = eqb a n
  under_in (suc k) a n = either (eqb a n)
      (λ u. both (ltb 0 n) (λ u. both (p.tree.here n) (λ u. under_in k a (p.tree.parent n))))

  unfoldable pub under_b : ℕ → ℕ → Bool
  under_b a n = under_in n a n

  -- some node under c that passes the test; some task
  unfoldable pub some_under_b : ℕ → (ℕ → Bool) → Bool
  some_under_b c q = any_below p.tree.size (λ t. both (under_b c t) (λ u. q t))

  unfoldable pub some_task_b : ℕ → (ℕ → Bool) → Bool
  some_task_b c q = some_under_b c (λ t. both (kind_b (p.tree.kind t) task) (λ u. q t))

  -- a before c, by chains of at most k + 1 orders
  unfoldable pub before_in : ℕ → ℕ → ℕ → Bool
  before_in zero a c = p.order a c
  before_in (suc k) a c = either (p.order a c)
      (λ u. any_below p.tree.size (λ b. both (p.order a b) (λ u. before_in k b c)))

  unfoldable pub before_b : ℕ → ℕ → Bool
  before_b a c = before_in p.tree.size a c

  unfoldable pub unordered_b : ℕ → ℕ → Bool
  unordered_b a b = both (negate (eqb a b)) (λ u. both (negate (before_b a b)) (λ u. negate (before_b b a)))
