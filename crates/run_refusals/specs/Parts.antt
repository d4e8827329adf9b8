-- Two parts of the chain of refusals; v tells whether the event's node stands.
use Rattle.std.specs.Prelude.{ℕ, Bool, cond, List}
use Rattle.plan_check.specs.Meaning.{plan_of}
use Rattle.runs.specs.Tests.{negate}
use Rattle.runs.specs.Searches.{either}
use Rattle.runs.specs.Execution.{Event, start, finish, skip}
use Rattle.runs.specs.Model.Monitor.{branch_begun_b, order_open_b, pre_unmet_b}
use Rattle.base.specs.Answers.{first}
use Rattle.run_state.specs.State.{status_in, flag_shown}

-- 19 and 20
unfoldable pub tree_refusal : List ℕ → List ℕ → ℕ → Bool → ℕ
tree_refusal b s t v = cond (either (negate v) (λ u. branch_begun_b (plan_of b) (status_in b s) t)) 19
    (cond (order_open_b (plan_of b) (status_in b s) t) 20 0)

-- 19 to 21 of a start, 19 and 20 of a skip; none of them is asked of a finish
unfoldable pub begin_refusal : List ℕ → List ℕ → Event → Bool → ℕ
begin_refusal b s (start t) v =
    first (tree_refusal b s t v) (cond (pre_unmet_b (plan_of b) (flag_shown s) (start t)) 21 0)
begin_refusal b s (finish t) v = 0
begin_refusal b s (skip g) v = tree_refusal b s g v
