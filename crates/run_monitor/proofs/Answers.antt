-- The answers of `status`. Assumes nothing.
use mathlib.Core.Path.{◌≡◌, refl, sym, ◌∙◌}
use mathlib.Core.Bool.{true, false, true≢false}
use mathlib.Core.List.{List}
use Prim.Native.Nat.{ℕ}
use Rattle.std.specs.declared.result.Result.TheVariants.{Ok, Err}
use Rattle.answers.specs.declared.Refusal.{Refusal}
use Rattle.answers.specs.Refusals.{number}
use Rattle.answers.proofs.Refusals.{some_number}
use Rattle.base.proofs.First.{answer_some}
use Rattle.plan_check.specs.Meaning.{plan_of}
use Rattle.plan_blocked.specs.Blocked.{plan_under}
use Rattle.plan_blocked.proofs.Refused.{blocks, under_well_formed}
use Rattle.runs.specs.Searches.{listed}
use Rattle.runs.specs.WellFormed.{WellFormed}
use Rattle.runs.specs.Branches.{Blocks}
use Rattle.runs.proofs.Blocked.Standing.{r_stands}
use Rattle.runs.proofs.Blocked.Monitor.{complete_same}
use Rattle.runs.specs.Execution as execution
use Rattle.runs.specs.Model.Monitor.{complete_b}
use Rattle.runs.proofs.Reflect.{Reflects, clash, r_map, same_test, true_T, T_true}
use Rattle.runs.proofs.Calls.Reflect.{r_complete}
use Rattle.run_state.specs.State.{status_in, state_refusal_under}
use Rattle.run_state.proofs.Passed.{well_formed, passed, list_passed, absent_waits}
use Rattle.run_monitor.specs.declared.Progress.TheVariants.{Complete, Unfinished}
use Rattle.run_monitor.specs.Status.{word_for, status_answer, Told}

module _ (b xs s : List ℕ) where
  pub told_refused : (e : Refusal) → number e ≡ state_refusal_under b xs s → Told b xs s (Err e)
  unfolding status_answer
  told_refused e q = record {
    returns = rw (← q)
        (answer_some (number e) (word_for (complete_b (plan_under b xs) (status_in b s) 0)) (some_number e));
    complete = (λ z. clash cc, λ x. absurd (some_number e (q ∙ x.0)));
  }

  module _ (under : state_refusal_under b xs s ≡ 0) where
    w : WellFormed (plan_of b)
    w = well_formed b s (passed b xs s under)

    list : Blocks (plan_of b) (listed xs)
    list = blocks b xs (list_passed b xs s under)

    left : WellFormed (plan_under b xs)
    left = under_well_formed b xs (list_passed b xs s under)

    -- the root of what is left is complete exactly if that of the whole plan is
    root : Reflects (complete_b (plan_under b xs) (status_in b s) 0)
        (execution.Complete (plan_under b xs) (status_in b s) 0)
    root = r_complete (plan_under b xs) left (status_in b s) 0 left.root_node

    same : complete_b (plan_of b) (status_in b s) 0 ≡ complete_b (plan_under b xs) (status_in b s) 0
    same = same_test _ _ (r_complete (plan_of b) w (status_in b s) 0 w.root_node)
        (r_map (complete_same (plan_of b) w (listed xs) list (status_in b s) (absent_waits b xs s under) 0
        ((r_stands (plan_of b) w (listed xs) 0).to left.root_node)) root)

    pub told_complete : complete_b (plan_of b) (status_in b s) 0 ≡ true → Told b xs s (Ok Complete)
    unfolding status_answer
    told_complete z = let y = sym same ∙ z in
        record { returns = rw (under, y); complete = (λ q. (under, root.to (true_T _ y)), λ x. refl) }

    pub told_unfinished : complete_b (plan_of b) (status_in b s) 0 ≡ false → Told b xs s (Ok Unfinished)
    unfolding status_answer
    told_unfinished z = let y = sym same ∙ z in record {
      returns = rw (under, y);
      complete = (λ q. clash cc, λ x. absurd (true≢false (sym (T_true _ (root.from x.1)) ∙ y)));
    }
