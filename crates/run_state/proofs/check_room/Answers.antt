-- `run_state::check_room` meets its contract. Assumes nothing.
use mathlib.Core.Path.{◌≡◌, refl, sym}
use Rattle.std.proofs.lemmas.Result.{err_from_is_err_and}
use Rattle.plan_check.proofs.Accepted.{Clean, clean}
use Rattle.plan_blocked.specs.Blocked.{refusal_under}
use Rattle.plan_blocked.proofs.Refused.{plan_accepted}
use Rattle.run_state.proofs.Refused.{room_refused, room_short, room_long}
use native.Mathlib.Omega.{arith}
use Rattle.run_state.proofs.check_room.Goals as goal
use Rattle.run_state.proofs.check_room.Goals.{In_ok-check_blocked}

sound : (c : In_ok-check_blocked) → refusal_under c.args.plan.now c.args.blocked.now ≡ 0
sound c = sym c.in_ok-check_blocked.ensures.returns

accepted : (c : In_ok-check_blocked) → Clean c.args.plan.now
accepted c = clean _ (plan_accepted _ _ (sound c))

pub check_blocked-requires : goal.check_blocked-requires
check_blocked-requires c = c.requires

pub returns-in_err-check_blocked : goal.returns-in_err-check_blocked
returns-in_err-check_blocked c =
    let p = err_from_is_err_and c.from_residual.result c.from_residual.ensures.1 in
    rw (p.1, p.2) (room_refused _ _ _ _ c.in_err-check_blocked.ensures.returns)

pub nodes-requires : goal.nodes-requires
nodes-requires c = (accepted (goal.at.nodes-requires c).In_ok-check_blocked).fits.limits.long

pub overflow_mul-nodes : goal.overflow_mul-nodes
overflow_mul-nodes c = omega (arith, (accepted (goal.at.overflow_mul-nodes c).In_ok-check_blocked).fits.limits.nodes)

pub overflow_add-nodes : goal.overflow_add-nodes
overflow_add-nodes c = omega (arith, (accepted (goal.at.overflow_add-nodes c).In_ok-check_blocked).fits.limits.nodes)

pub returns-then-state-nodes : goal.returns-then-state-nodes
returns-then-state-nodes c =
    room_short _ _ _ (sound (goal.at.returns-then-state-nodes c).In_ok-check_blocked) (omega arith)

pub returns : goal.returns
returns c = room_long _ _ _ (sound (goal.at.returns c).In_ok-check_blocked) (omega arith)
    (c.in_ok-check_blocked.ensures.standing refl)
