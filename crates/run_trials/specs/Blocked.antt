-- Trial plans and calls for 02's blocked branches. Definitions only.
use Rattle.std.specs.Prelude.{ℕ, List, [], ◌∷◌}
use Rattle.runs.specs.Plan.{any_of, optional}
use Rattle.runs.specs.Execution.{Status, waiting, running, done}
use Rattle.runs.specs.Summary.{must_post}
use Rattle.runs.specs.Verdict.{CLEAR, DOOMED}
use Rattle.runs.specs.Calls.{together, no_task, wrong_status, branch_begun, order_open, pre_unmet, number}
use Rattle.run_monitor.specs.Status.{Word, COMPLETE, UNFINISHED}
use Rattle.run_trials.specs.Written.{PlanPieces}
use Rattle.run_trials.specs.Trial.{Trial, shown, state_bytes}
use Rattle.run_trials.specs.Checked.{StateRow, Worded, Listing}
use Rattle.run_trials.specs.Terms.{off, none_set, one_set, two_set, begin, end, omit, ok, trial_without}
use Rattle.run_trials.specs.Terms.{waits}
use Rattle.run_trials.specs.Terms.{unstarted}
use Rattle.run_trials.specs.Starred.{picked}
use Rattle.run_trials.specs.Requested.{lowr, cali, tone, ping, dive, nested}

abbrev pub of_branches : List Trial
of_branches =
    -- 01's choice, OPEN, without the branch that has no conditions: CLEAR. Start there 19, finish and finish together
    -- 18; the group is still no task
    trial_without picked (4 ∷ []) CLEAR (shown 2 0 off must_post ∷ [])
    (begin 1 ∷ end 1 ∷ begin 4 ∷ end 4 ∷ together (4 ∷ []) ∷ begin 2 ∷ begin 3 ∷ together (3 ∷ 4 ∷ []) ∷ end 3 ∷ begin 5
    ∷ [])
    (ok ∷ ok ∷ number branch_begun ∷ number wrong_status ∷ number wrong_status ∷ number no_task ∷ ok
    ∷ number wrong_status ∷ ok ∷ ok ∷ [])
    (state_bytes none_set (waiting ∷ done ∷ waiting ∷ done ∷ waiting ∷ running ∷ []) (0 ∷ 1 ∷ 0 ∷ 2 ∷ 0 ∷ 3 ∷ []))
    -- without the other branch: DOOMED
    ∷ trial_without picked (3 ∷ []) DOOMED [] (begin 1 ∷ end 1 ∷ begin 3 ∷ begin 4 ∷ end 4 ∷ begin 5 ∷ [])
    (ok ∷ ok ∷ number branch_begun ∷ ok ∷ ok ∷ number pre_unmet ∷ [])
    (state_bytes (one_set 0) (waiting ∷ done ∷ waiting ∷ waiting ∷ done ∷ waiting ∷ []) (0 ∷ 1 ∷ 0 ∷ 0 ∷ 2 ∷ 0 ∷ []))
    -- an optional group without its branches is complete only by a skip
    ∷ trial_without dive (tone ∷ 4 ∷ []) CLEAR []
    (begin lowr ∷ end lowr ∷ begin tone ∷ begin 4 ∷ begin ping ∷ omit cali ∷ begin ping ∷ [])
    (ok ∷ ok ∷ number branch_begun ∷ number branch_begun ∷ number order_open ∷ ok ∷ ok ∷ [])
    (state_bytes two_set (waiting ∷ done ∷ done ∷ waiting ∷ waiting ∷ running ∷ []) (0 ∷ 1 ∷ 0 ∷ 0 ∷ 0 ∷ 2 ∷ []))
    -- a blocked optional group is not skipped, and the task under it not started; a blocked node below a blocked one
    -- changes nothing
    ∷ trial_without (nested any_of optional) (2 ∷ []) CLEAR []
    (omit 2 ∷ begin 3 ∷ end 3 ∷ begin 2 ∷ begin 1 ∷ [])
    (number branch_begun ∷ number branch_begun ∷ number wrong_status ∷ number no_task ∷ ok ∷ [])
    (state_bytes none_set (waiting ∷ running ∷ waits 2) (0 ∷ 1 ∷ 0 ∷ 0 ∷ []))
    ∷ trial_without (nested any_of optional) (2 ∷ 3 ∷ []) CLEAR []
    (omit 2 ∷ begin 3 ∷ end 3 ∷ begin 2 ∷ begin 1 ∷ [])
    (number branch_begun ∷ number branch_begun ∷ number wrong_status ∷ number no_task ∷ ok ∷ [])
    (state_bytes none_set (waiting ∷ running ∷ waits 2) (0 ∷ 1 ∷ 0 ∷ 0 ∷ []))
    -- 29 does not ask a group that is blocked
    ∷ trial_without (nested any_of any_of) (2 ∷ 3 ∷ []) CLEAR [] (begin 3 ∷ begin 1 ∷ [])
    (number branch_begun ∷ ok ∷ [])
    (state_bytes none_set (waiting ∷ running ∷ waits 2) (0 ∷ 1 ∷ 0 ∷ 0 ∷ []))
    ∷ []

-- 28 and 29
abbrev refused : PlanPieces → List ℕ → ℕ → Listing
refused w xs r = record { plan = w; blocked = xs; refusal = r }

abbrev pub of_lists : List Listing
of_lists =
    -- both branches; the one branch of a group that stands
    refused picked (3 ∷ 4 ∷ []) 29
    ∷ refused (nested any_of any_of) (3 ∷ []) 29
    -- the root, children of an all-of group
    ∷ refused picked (0 ∷ []) 28
    ∷ refused picked (1 ∷ []) 28
    ∷ refused picked (2 ∷ []) 28
    -- a repeated number, falling numbers, and 28 before 29
    ∷ refused picked (4 ∷ 4 ∷ []) 28
    ∷ refused picked (4 ∷ 3 ∷ []) 28
    ∷ refused picked (1 ∷ 3 ∷ 4 ∷ []) 28
    -- no node: the first past them, 128, a number that a byte would take for 3, the greatest
    ∷ refused picked (6 ∷ []) 28
    ∷ refused picked (3 ∷ 128 ∷ []) 28
    ∷ refused picked (259 ∷ []) 28
    ∷ refused picked (18446744073709551615 ∷ []) 28
    ∷ []

-- 16 on states of the choice: x is the byte of the branch without conditions, k its place
abbrev left : List ℕ → Status → ℕ → ℕ → StateRow
left xs x k r = record {
  plan = picked;
  blocked = xs;
  state = state_bytes none_set (waiting ∷ done ∷ waiting ∷ waiting ∷ x ∷ waiting ∷ []) (0 ∷ 1 ∷ 0 ∷ 0 ∷ k ∷ 0 ∷ []);
  refusal = r;
}

abbrev pub of_absent : List StateRow
of_absent =
    left [] running 2 0
    ∷ left (4 ∷ []) running 2 16
    ∷ left (4 ∷ []) done 2 16
    ∷ left (4 ∷ []) waiting 2 16
    ∷ left (4 ∷ []) waiting 0 0
    ∷ left (3 ∷ []) running 2 0
    -- 28 and 29 before 16
    ∷ left (4 ∷ 4 ∷ []) running 7 28
    ∷ left (3 ∷ 4 ∷ []) running 7 29
    ∷ []

-- whether the root is complete
abbrev root_says : PlanPieces → List ℕ → List Status → List ℕ → Word → Worded
root_says w xs l os v = record { plan = w; blocked = xs; state = state_bytes none_set l os; word = v }

abbrev pub of_roots : List Worded
of_roots =
    root_says (nested optional any_of) (1 ∷ 2 ∷ []) (waits 4) (unstarted 4) UNFINISHED
    ∷ root_says (nested optional any_of) (1 ∷ 2 ∷ []) (done ∷ waits 3) (unstarted 4) COMPLETE
    ∷ root_says (nested any_of optional) (2 ∷ []) (waiting ∷ done ∷ waits 2) (0 ∷ 1 ∷ 0 ∷ 0 ∷ []) COMPLETE
    ∷ root_says (nested any_of optional) (1 ∷ []) (waiting ∷ waiting ∷ done ∷ waiting ∷ []) (unstarted 4) COMPLETE
    ∷ []
