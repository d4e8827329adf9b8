-- `call` meets its contract. Assumes nothing.
use mathlib.Core.Path.{◌≡◌, refl, sym}
use Rattle.std.proofs.lemmas.Result.{err_from_is_err_and}
use Rattle.plan_check.proofs.Meaning.{kind_is}
use Rattle.run_state.specs.State.{state_refusal_under}
use Rattle.run_state.proofs.Passed as checks
use Rattle.run_refusals.specs.Inner.{event_of, event_refusal}
use Rattle.run_refusals.proofs.Moves.{node_of_lem, task_event}
use Rattle.run_refusals.proofs.Answers.{answer_task}
use Rattle.run_monitor.proofs.Called.{called_16, called_22, called_0}
use Rattle.run_monitor.proofs.call.Goals as goal
use Rattle.run_monitor.proofs.call.Goals.{In_ok-check_state, In_ok-refused}

passed : (c : In_ok-check_state) → let a = c.args in
    state_refusal_under a.plan.now a.blocked.now a.state.now ≡ 0
passed c = sym c.in_ok-check_state.ensures.returns

none : (c : In_ok-refused) → let a = c.args in
    event_refusal a.plan.now a.blocked.now a.state.now (event_of a.m a.task) ≡ 0
none c =
    let e = c.in_ok-check_state.ensures in
    sym (c.in_ok-refused.ensures _ (sym e.returns) (e.standing refl))

pub check_state-requires : goal.check_state-requires
check_state-requires c = c.all_nodes-standing.ensures

pub returns-in_err-check_state : goal.returns-in_err-check_state
returns-in_err-check_state c =
    let r = err_from_is_err_and c.from_residual.result c.from_residual.ensures.1 in
    rw (r.1, r.2) (called_16 _ _ _ _ _ c.in_err-check_state.ensures.returns)

pub refused-requires : goal.refused-requires
refused-requires c = checks.passed _ _ _ (passed (goal.at.refused-requires c).In_ok-check_state)

pub returns-in_err-refused : goal.returns-in_err-refused
returns-in_err-refused c =
    let q = c.from_residual-in_err-refused in
    let r = err_from_is_err_and q.result q.ensures.1 in
    rw (r.1, r.2) (
    let e = c.in_ok-check_state.ensures in
    called_22 _ _ _ _ (sym e.returns) _ (c.in_err-refused.ensures _ (sym e.returns) (e.standing refl)))

pub write_move-requires : goal.write_move-requires
write_move-requires c =
    let a = c.args in
    let p = goal.at.write_move-requires c in
    let ok = passed p.In_ok-check_state in
    record {
      node = (kind_is _ _ 0 (answer_task _ _ _ ok a.task _ (node_of_lem a.m a.task) (task_event a.m a.task)
          (none p.In_ok-refused))).0;
      passed = checks.passed _ _ _ ok;
    }

pub returns : goal.returns
returns c =
    let p = goal.at.returns c in
    called_0 _ _ _ _ (passed p.In_ok-check_state) (none p.In_ok-refused) c.write_move.ensures
