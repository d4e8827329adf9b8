-- `status` meets its contract. Assumes nothing.
use mathlib.Core.Path.{◌≡◌, sym, ◌∙◌}
use Rattle.std.proofs.lemmas.Result.{err_from_is_err_and}
use Rattle.run_state.specs.Inner.{state_refusal}
use Rattle.run_state.specs.State.{state_refusal_under}
use Rattle.run_state.proofs.Passed as checks
use Rattle.run_monitor.proofs.Answers.{told_refused, told_complete, told_unfinished}
use native.Mathlib.Omega.{arith}
use Rattle.run_monitor.proofs.status.Goals as goal
use Rattle.run_monitor.proofs.status.Goals.{In_ok-check_state}

passed : (c : In_ok-check_state) → let a = c.args in
    state_refusal_under a.plan.now a.blocked.now a.state.now ≡ 0
passed c = sym c.in_ok-check_state.ensures.returns

whole : (c : In_ok-check_state) → state_refusal c.args.plan.now c.args.state.now ≡ 0
whole c = checks.passed _ _ _ (passed c)

pub check_state-requires : goal.check_state-requires
check_state-requires c = c.all_nodes-standing.ensures

pub returns-in_err-check_state : goal.returns-in_err-check_state
returns-in_err-check_state c =
    let r = err_from_is_err_and c.from_residual.result c.from_residual.ensures.1 in
    rw (r.1, r.2) (told_refused _ _ _ _ c.in_err-check_state.ensures.returns)

pub children-ends-requires : goal.children-ends-requires
children-ends-requires c = whole (goal.at.children-ends-requires c).In_ok-check_state

pub is_complete-requires : goal.is_complete-requires
is_complete-requires c =
    let w = whole (goal.at.is_complete-requires c).In_ok-check_state in (
      (checks.has_room _ _ w).plan.fits.limits.some_node,
      (w, c.children-ends.ensures.1 0 (omega arith)),
    )

pub returns-then-is_complete : goal.returns-then-is_complete
returns-then-is_complete c = told_complete _ _ _ (passed (goal.at.returns-then-is_complete c).In_ok-check_state)
    (sym c.is_complete.ensures ∙ c.if-is_complete.true)

pub returns-else-is_complete : goal.returns-else-is_complete
returns-else-is_complete c = told_unfinished _ _ _ (passed (goal.at.returns-else-is_complete c).In_ok-check_state)
    (sym c.is_complete.ensures ∙ c.if-is_complete.false)
