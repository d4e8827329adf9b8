-- The answer of `status`: a refusal up to 16, or a word for the root.
use Rattle.std.specs.Prelude.{ℕ, ◌≡◌, ◌⊎◌, ◌↔◌, Bool, true, false, List}
use Rattle.std.proofs.Common.{inl, inr}
use Rattle.std.specs.declared.result.Result.{Result}
use Rattle.std.specs.declared.result.Result.TheVariants.{Ok, Err}
use Rattle.answers.specs.declared.Refusal.{Refusal}
use Rattle.answers.specs.Refusals.{number}
use Rattle.base.specs.Answers.{refused_or}
use Rattle.plan_blocked.specs.Blocked.{plan_under}
use Rattle.runs.specs.Execution as execution
use Rattle.runs.specs.Model.Monitor.{complete_b}
use Rattle.run_state.specs.State.{status_in, state_refusal_under}
use Rattle.run_monitor.specs.declared.Progress.{Progress}
use Rattle.run_monitor.specs.declared.Progress.TheVariants.{Complete, Unfinished}

pub data Word : Type 0 where
  COMPLETE UNFINISHED : Word

-- 01's word for each case
abbrev pub word_of : Progress → Word
word_of Complete = COMPLETE
word_of Unfinished = UNFINISHED

-- a refusal, or whether the root is complete
abbrev pub Report : Type 0
Report = Result Progress Refusal

-- 01's number or word for each case
abbrev pub reported : Report → ℕ ⊎ Word
reported (Err e) = inl (number e)
reported (Ok p) = inr (word_of p)

abbrev pub word_for : Bool → Word
word_for true = COMPLETE
word_for false = UNFINISHED

unfoldable pub status_answer : List ℕ → List ℕ → List ℕ → ℕ ⊎ Word
status_answer b xs s = refused_or (state_refusal_under b xs s)
    (word_for (complete_b (plan_under b xs) (status_in b s) 0))

-- what `status` answers with the list xs of blocked nodes: COMPLETE exactly if the state passes the checks up to 16 and
-- shows the root complete, of what is left of the plan
pub record Told (b xs s : List ℕ) (r : Report) : Type 0 where
  pub returns : reported r ≡ status_answer b xs s
  pub complete : (reported r ≡ inr COMPLETE)
      ↔ ((state_refusal_under b xs s ≡ 0) × execution.Complete (plan_under b xs) (status_in b s) 0)
