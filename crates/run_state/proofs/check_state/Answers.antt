-- `run_state::check_state` meets its contract. Assumes nothing.
use mathlib.Core.Path.{◌≡◌, refl, sym, ◌∙◌}
use mathlib.Core.Bool.{Bool, ◌||◌}
use Rattle.std.proofs.lemmas.Result.{err_from_is_err_and}
use Rattle.run_state.proofs.Refused.{Roomy, fits, state_refused, state_bad, state_good}
use Rattle.run_state.proofs.Refused.{room_passed, bad_parts}
use Rattle.plan_format.specs.Format.{node_count}
use Rattle.runs.specs.Searches.{any_below}
use Rattle.run_starts.specs.Starts.{misnumbered}
use Rattle.run_state.specs.State.{bad_flag, room_refusal_under, malformed_under}
use Rattle.run_state.specs.Inner.{bad_node_in}
use native.Mathlib.Omega.{arith}
use Rattle.run_state.proofs.check_state.Goals as goal
use Rattle.run_state.proofs.check_state.Goals.{In_ok-check_room}
use Rattle.run_state.proofs.check_state.Goals.{then-flags_bad-via-then-flags_bad}
use Rattle.run_state.proofs.check_state.Goals.{then-flags_bad-via-else-flags_bad+then-nodes_bad}
use Rattle.run_state.proofs.check_state.Goals.{then-flags_bad-via-else-flags_bad+else-nodes_bad+then-ordinals_bad}

passed : (c : In_ok-check_room) → let a = c.args in
    room_refusal_under a.plan.now a.blocked.now a.state.now ≡ 0
passed c = sym c.in_ok-check_room.ensures.returns

enough : (c : In_ok-check_room) → Roomy c.args.plan.now c.args.state.now
enough c = room_passed _ _ _ (passed c)

-- 16, part by part
parts : (c : In_ok-check_room) → let a = c.args in
    (x y z : Bool) → x ≡ any_below 64 (bad_flag a.plan.now a.state.now)
    → y ≡ any_below (node_count a.plan.now) (bad_node_in a.plan.now c.check_room.new.standing a.state.now)
    → z ≡ misnumbered a.plan.now a.state.now
    → (x || y || z) ≡ malformed_under a.plan.now a.blocked.now a.state.now
parts c = bad_parts _ _ _ (c.in_ok-check_room.ensures.standing refl)

pub check_room-requires : goal.check_room-requires
check_room-requires c = c.requires

pub returns-in_err-check_room : goal.returns-in_err-check_room
returns-in_err-check_room c =
    let p = err_from_is_err_and c.from_residual.result c.from_residual.ensures.1 in
    rw (p.1, p.2) (state_refused _ _ _ _ c.in_err-check_room.ensures.returns)

pub flags_bad-requires : goal.flags_bad-requires
flags_bad-requires c = let r = enough (goal.at.flags_bad-requires c).In_ok-check_room in
    (r.plan.fits.limits.long, omega (arith, r.room))

pub nodes_bad-requires : goal.nodes_bad-requires
nodes_bad-requires c = fits _ _ (enough (goal.at.nodes_bad-requires c).In_ok-check_room)

pub ordinals_bad-requires : goal.ordinals_bad-requires
ordinals_bad-requires c = fits _ _ (enough (goal.at.ordinals_bad-requires c).In_ok-check_room)

pub returns-then-flags_bad : goal.returns-then-flags_bad
returns-then-flags_bad c =
    let p = (goal.at.returns-then-flags_bad c).In_ok-check_room in
    state_bad _ _ _ (passed p) (elim c.then-flags_bad.branch [
      | then-flags_bad-via-then-flags_bad w ↦ sym (parts p _ _ _ c.flags_bad.ensures refl refl) ∙ rw w.if-flags_bad.true
      | then-flags_bad-via-else-flags_bad+then-nodes_bad w ↦
          sym (parts p _ _ _ c.flags_bad.ensures w.nodes_bad.ensures refl)
          ∙ rw (w.if-flags_bad.false, w.if-nodes_bad.true)
      | then-flags_bad-via-else-flags_bad+else-nodes_bad+then-ordinals_bad w ↦
          sym (parts p _ _ _ c.flags_bad.ensures w.nodes_bad.ensures w.ordinals_bad.ensures)
          ∙ rw (w.if-flags_bad.false, w.if-nodes_bad.false, w.if-ordinals_bad.true)
    ])

pub returns : goal.returns
returns c =
    let p = (goal.at.returns c).In_ok-check_room in
    state_good _ _ _ (passed p)
    (sym (parts p _ _ _ c.flags_bad.ensures c.nodes_bad.ensures c.ordinals_bad.ensures)
    ∙ rw (c.if-flags_bad.false, c.if-nodes_bad.false, c.if-ordinals_bad.false))
    (c.in_ok-check_room.ensures.standing refl)
