-- `skip` meets its contract. Assumes nothing.
use mathlib.Core.Path.{◌≡◌, refl, sym}
use Prim.Native.Nat.{◌<◌}
use native.Mathlib.Omega.{arith}
use Rattle.std.proofs.lemmas.Result.{err_from_is_err_and}
use Rattle.plan_format.specs.Format.{node_count}
use Rattle.plan_check.proofs.Meaning.{kind_is}
use Rattle.runs.specs.Execution as execution
use Rattle.run_state.specs.State.{state_refusal_under}
use Rattle.run_state.proofs.Refused.{Roomy}
use Rattle.run_state.proofs.Passed as checks
use Rattle.run_refusals.specs.Inner.{event_refusal}
use Rattle.run_refusals.proofs.Answers.{skip_optional}
use Rattle.run_monitor.proofs.Called.{called_16, called_22, called_0}
use Rattle.run_monitor.proofs.skip.Goals as goal
use Rattle.run_monitor.proofs.skip.Goals.{In_ok-check_state, In_ok-skip_refused}

passed : (c : In_ok-check_state) → let a = c.args in
    state_refusal_under a.plan.now a.blocked.now a.state.now ≡ 0
passed c = sym c.in_ok-check_state.ensures.returns

room : (c : In_ok-check_state) → Roomy c.args.plan.now c.args.state.now
room c = checks.has_room _ _ (checks.passed _ _ _ (passed c))

none : (c : In_ok-skip_refused) → let a = c.args in
    event_refusal a.plan.now a.blocked.now a.state.now (execution.skip a.group) ≡ 0
none c =
    let e = c.in_ok-check_state.ensures in
    sym (c.in_ok-skip_refused.ensures _ (sym e.returns) (e.standing refl))

group_below : (c : In_ok-skip_refused) → c.args.group < node_count c.args.plan.now
group_below c = (kind_is _ _ 3 (skip_optional _ _ _ (sym c.in_ok-check_state.ensures.returns) _ (none c))).0

pub check_state-requires : goal.check_state-requires
check_state-requires c = c.all_nodes-standing.ensures

pub returns-in_err-check_state : goal.returns-in_err-check_state
returns-in_err-check_state c =
    let r = err_from_is_err_and c.from_residual.result c.from_residual.ensures.1 in
    rw (r.1, r.2) (called_16 _ _ _ _ _ c.in_err-check_state.ensures.returns)

pub skip_refused-requires : goal.skip_refused-requires
skip_refused-requires c = checks.passed _ _ _ (passed (goal.at.skip_refused-requires c).In_ok-check_state)

pub returns-in_err-skip_refused : goal.returns-in_err-skip_refused
returns-in_err-skip_refused c =
    let q = c.from_residual-in_err-skip_refused in
    let r = err_from_is_err_and q.result q.ensures.1 in
    rw (r.1, r.2) (
    let e = c.in_ok-check_state.ensures in
    called_22 _ _ _ _ (sym e.returns) _ (c.in_err-skip_refused.ensures _ (sym e.returns) (e.standing refl)))

pub overflow_add-state : goal.overflow_add-state
overflow_add-state c =
    let p = goal.at.overflow_add-state c in
    omega (arith, group_below p.In_ok-skip_refused, (room p.In_ok-check_state).plan.fits.limits.nodes)

pub bounds-state-group : goal.bounds-state-group
bounds-state-group c =
    let p = goal.at.bounds-state-group c in
    omega (arith, group_below p.In_ok-skip_refused, (room p.In_ok-check_state).room)

pub returns : goal.returns
returns c =
    let p = goal.at.returns c in
    called_0 _ _ _ _ (passed p.In_ok-check_state) (none p.In_ok-skip_refused) refl
