-- `finish_together` meets its contract. Assumes nothing.
use mathlib.Core.Path.{◌≡◌, sym}
use Rattle.std.proofs.lemmas.Result.{err_from_is_err_and}
use Rattle.runs.specs.Calls.{together}
use Rattle.run_state.specs.State.{state_refusal_under}
use Rattle.run_state.proofs.Passed as checks
use Rattle.run_refusals.specs.Events.{call_refusal}
use Rattle.run_refusals.proofs.Together.{accepted_rises, accepted_tasks}
use Rattle.run_monitor.proofs.Called.{called_16, called_22, called_0}
use Rattle.run_monitor.proofs.finish_together.Goals as goal
use Rattle.run_monitor.proofs.finish_together.Goals.{In_ok-check_state, In_ok-together_refused}

passed : (c : In_ok-check_state) → let a = c.args in
    state_refusal_under a.plan.now a.blocked.now a.state.now ≡ 0
passed c = sym c.in_ok-check_state.ensures.returns

none : (c : In_ok-together_refused) → let a = c.args in
    call_refusal a.plan.now a.blocked.now a.state.now (together a.tasks.now) ≡ 0
none c = sym (c.in_ok-together_refused.ensures _ (sym c.in_ok-check_state.ensures.returns))

pub check_state-requires : goal.check_state-requires
check_state-requires c = c.all_nodes-standing.ensures

pub returns-in_err-check_state : goal.returns-in_err-check_state
returns-in_err-check_state c =
    let r = err_from_is_err_and c.from_residual.result c.from_residual.ensures.1 in
    rw (r.1, r.2) (called_16 _ _ _ _ _ c.in_err-check_state.ensures.returns)

pub together_refused-requires : goal.together_refused-requires
together_refused-requires c = checks.passed _ _ _ (passed (goal.at.together_refused-requires c).In_ok-check_state)

pub returns-in_err-together_refused : goal.returns-in_err-together_refused
returns-in_err-together_refused c =
    let q = c.from_residual-in_err-together_refused in
    let r = err_from_is_err_and q.result q.ensures.1 in
    rw (r.1, r.2) (
    let e = sym c.in_ok-check_state.ensures.returns in called_22 _ _ _ _ e _ (c.in_err-together_refused.ensures _ e))

pub write_finishes-requires : goal.write_finishes-requires
write_finishes-requires c =
    let p = goal.at.write_finishes-requires c in
    let ok = passed p.In_ok-check_state in
    let z = none p.In_ok-together_refused in
    record { passed = checks.passed _ _ _ ok; rises = accepted_rises _ _ _ ok _ z; tasks = accepted_tasks _ _ _ ok _ z }

pub returns : goal.returns
returns c =
    let p = goal.at.returns c in
    called_0 _ _ _ _ (passed p.In_ok-check_state) (none p.In_ok-together_refused) c.write_finishes.ensures
