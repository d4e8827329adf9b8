-- Inner contracts: what is asked of the finishes of a list. Definitions only.
use Rattle.std.specs.Prelude.{◌≡◌, true, List, ℕ}
use Rattle.node_sets.specs.Sets.{Each}
use Rattle.plan_format.specs.Format.{is_kind}
use Rattle.runs.specs.Calls.{Rising}
use Rattle.run_state.specs.Inner.{state_refusal}

-- what is asked where the finishes of a list are written: the state passes 1 to 16, the list rises, and its numbers are
-- those of tasks
pub record Finishing (b s ts : List ℕ) : Type 0 where
  pub passed : state_refusal b s ≡ 0
  pub rises : Rising ts
  pub tasks : Each ts (λ t. is_kind b t 0 ≡ true)
