-- The calls as functions that compute: refusals, the number returned, the states; over lists of calls with the first
-- call first. Definitions only.
use Rattle.std.specs.Prelude.{Bool, true, false, not, List, [], ◌∷◌, ℕ, zero, suc, eqb, ltb}
use Rattle.std.proofs.Math.Bool.{decide}
use Rattle.std.proofs.Math.Option.{Option, none, some}
use Rattle.runs.specs.Tests.{both, negate, is_some}
use Rattle.runs.specs.Searches.{either, any_below, any_in}
use Rattle.runs.specs.Plan.{task, optional, inc, post, Plan}
use Rattle.runs.specs.Execution.{Status, waiting, running, done, Status-discrete, State, Event, start, finish}
use Rattle.runs.specs.Execution.{skip, node_of, pre_of, asserts}
use Rattle.runs.specs.Calls.{Call, one, together, finishes, events, World, happen_all, Refusal, no_task}
use Rattle.runs.specs.Calls.{wrong_status, branch_begun, order_open}
use Rattle.runs.specs.Calls.{pre_unmet, inc_broken, not_rising, post_opposed, no_optional, number, asks, checks}
use Rattle.runs.specs.Model.Trees.{kind_b, picks_b, moves_b, by_kind, some_child_b, every_child_b, under_b}
use Rattle.runs.specs.Model.Trees.{some_under_b}

unfoldable pub status_b : Status → Status → Bool
status_b s r = decide (Status-discrete s r)

-- the two signs are there and opposite
unfoldable pub opposite_b : Option Bool → Option Bool → Bool
opposite_b none o = false
opposite_b (some u) o = is_some o (not u)

unfoldable pub rising_b : List ℕ → Bool
rising_b [] = true
rising_b (t ∷ []) = true
rising_b (t ∷ u ∷ ts) = both (ltb t u) (λ x. rising_b (u ∷ ts))

unfoldable pub not_rising_b : List ℕ → Bool
not_rising_b [] = true
not_rising_b (t ∷ ts) = negate (rising_b (t ∷ ts))

module _ (p : Plan) where
  unfoldable pub task_b : ℕ → Bool
  task_b t = both (p.tree.here t) (λ u. kind_b (p.tree.kind t) task)

  unfoldable pub optional_b : ℕ → Bool
  optional_b g = both (p.tree.here g) (λ u. kind_b (p.tree.kind g) optional)

  unfoldable pub absent_b : ℕ → Bool
  absent_b t = negate (p.tree.here t)

  module _ (s : State) where
    -- k: more than the levels under n
    unfoldable pub complete_in : ℕ → ℕ → Bool
    complete_in zero n = false
    complete_in (suc k) n = by_kind (p.tree.kind n) (λ u. status_b (s n) done)
        (λ u. every_child_b p n (λ c. complete_in k c)) (λ u. some_child_b p n (λ c. complete_in k c))
        (λ u. either (some_child_b p n (λ c. complete_in k c)) (λ u. status_b (s n) done))

    unfoldable pub complete_b : ℕ → Bool
    complete_b n = complete_in p.tree.size n

    unfoldable pub begun_b : ℕ → Bool
    begun_b b = some_under_b p b (λ t. both (moves_b (p.tree.kind t)) (λ u. negate (status_b (s t) waiting)))

    unfoldable pub rival_b : ℕ → ℕ → Bool
    rival_b g b = either (some_child_b p g (λ c. both (negate (eqb c b)) (λ u. begun_b c)))
        (λ u. both (kind_b (p.tree.kind g) optional) (λ u. status_b (s g) done))

    unfoldable pub wrong_status_b : Event → Bool
    wrong_status_b (start t) = negate (status_b (s t) (asks (start t)))
    wrong_status_b (finish t) = either (absent_b t) (λ u. negate (status_b (s t) (asks (finish t))))
    wrong_status_b (skip g) = either (negate (status_b (s g) (asks (skip g)))) (λ u. some_child_b p g begun_b)

    unfoldable pub branch_begun_b : ℕ → Bool
    branch_begun_b t = any_below p.tree.size
        (λ g. both (picks_b (p.tree.kind g)) (λ u. some_child_b p g (λ b. both (under_b p b t) (λ u. rival_b g b))))

    unfoldable pub order_open_b : ℕ → Bool
    order_open_b t = any_below p.tree.size (λ a. any_below p.tree.size
        (λ b. both (p.order a b) (λ u. both (under_b p b t) (λ u. negate (complete_b a)))))

    unfoldable pub inc_broken_b : Event → Bool
    inc_broken_b e = any_below p.tree.size (λ t. both (negate (eqb (node_of e) t)) (λ u. both (status_b (s t) running)
        (λ u. any_below p.conditions.flags (λ f. opposite_b (p.conditions.sign inc t f) (asserts p e f)))))

  unfoldable pub pre_unmet_b : (ℕ → Bool) → Event → Bool
  pre_unmet_b flag e = any_below p.conditions.flags (λ f. is_some (pre_of p.conditions e f) (not (flag f)))

  unfoldable pub post_opposed_b : List ℕ → Bool
  post_opposed_b ts = any_in ts (λ t. any_in ts (λ x. any_below p.conditions.flags
      (λ f. opposite_b (p.conditions.sign post t f) (p.conditions.sign post x f))))

-- whole: the whole plan; p: what is left of it without the blocked nodes
module _ (whole p : Plan) where
  unfoldable pub applies_b : World → Call → Refusal → Bool
  applies_b a (one e) no_task = negate (task_b whole (node_of e))
  applies_b a (one e) wrong_status = wrong_status_b p a.status e
  applies_b a (one e) branch_begun = either (absent_b p (node_of e)) (λ u. branch_begun_b p a.status (node_of e))
  applies_b a (one e) order_open = order_open_b p a.status (node_of e)
  applies_b a (one e) pre_unmet = pre_unmet_b p a.flag e
  applies_b a (one e) inc_broken = inc_broken_b p a.status e
  applies_b a (one e) no_optional = negate (optional_b whole (node_of e))
  applies_b a (one e) not_rising = false
  applies_b a (one e) post_opposed = false
  applies_b a (together ts) no_task = any_in ts (λ t. negate (task_b whole t))
  applies_b a (together ts) wrong_status = any_in ts (λ t. wrong_status_b p a.status (finish t))
  applies_b a (together ts) branch_begun = false
  applies_b a (together ts) order_open = false
  applies_b a (together ts) pre_unmet = false
  applies_b a (together ts) inc_broken = any_in ts
      (λ t. inc_broken_b p (happen_all p a (finishes ts)).status (finish t))
  applies_b a (together ts) no_optional = false
  applies_b a (together ts) not_rising = not_rising_b ts
  applies_b a (together ts) post_opposed = post_opposed_b p ts

abbrev pub or_else : Bool → Refusal → (Unit {0} → Option Refusal) → Option Refusal
or_else true r k = some r
or_else false r k = k tt

unfoldable pub first_of : (Refusal → Bool) → List Refusal → Option Refusal
first_of g [] = none
first_of g (q ∷ l) = or_else (g q) q (λ u. first_of g l)

abbrev pub refusal_number : Option Refusal → ℕ
refusal_number none = 0
refusal_number (some r) = number r

abbrev pub settle : Option Refusal → World → World → World
settle none old new = new
settle (some r) old new = old

module _ (whole p : Plan) where
  -- the first check that applies
  unfoldable pub refusal_of : World → Call → Option Refusal
  refusal_of a c = first_of (applies_b whole p a c) (checks c)

  -- what the call returns
  unfoldable pub returned : World → Call → ℕ
  returned a c = refusal_number (refusal_of a c)

  -- the states after it
  unfoldable pub step : World → Call → World
  step a c = settle (refusal_of a c) a (happen_all p a (events c))

  unfoldable pub returns : World → List Call → List ℕ
  returns a [] = []
  returns a (c ∷ cs) = returned a c ∷ returns (step a c) cs

  unfoldable pub states : World → List Call → World
  states a [] = a
  states a (c ∷ cs) = states (step a c) cs
