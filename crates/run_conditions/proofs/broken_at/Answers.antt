-- `run_conditions::broken_at` meets its contract. Assumes nothing.
use mathlib.Core.Path.{◌≡◌, refl, ◌∙◌}
use mathlib.Core.Bool.{cond}
use Prim.Native.Nat.{◌<◌}
use Rattle.run_flags.specs.Flags.{flag_in}
use Rattle.plan_format.specs.Format.{node_count}
use Rattle.run_state.proofs.Refused.{Roomy}
use Rattle.run_state.proofs.Passed.{has_room}
use Rattle.node_sets.specs.Sets.{marked}
use Rattle.run_conditions.proofs.Conditions.{on_task, broken_turn, kept_set, kept_clear}
use native.Mathlib.Omega.{arith}
use Rattle.run_conditions.proofs.broken_at.Goals as goal
use Rattle.run_conditions.proofs.broken_at.Goals.{else-sign, then-sign}
use Rattle.run_conditions.proofs.broken_at.Goals.{After-from-node, Joined-sign, Start}

room : (c : Start) → Roomy c.args.plan.now c.args.state.now
room c = has_room _ _ c.requires.1

node_below : (c : After-from-node) → c.from-node.result < node_count c.args.plan.now
node_below c =
    omega (
      arith,
      c.from-node.ensures,
      c.condition_node.ensures,
      (on_task _ (has_room _ _ c.requires.1).accepted c.args.i c.requires.0).0,
    )

kept : (c : Joined-sign) → let a = c.args in
    c.if-sign.kept ≡ flag_in (cond c.set_at-sign.result a.after.set.bytes a.after.clear.bytes)
    c.flag_at-f.result
kept c =
    elim c.if-sign.branch [
      | then-sign w ↦ w.kept-is ∙ w.has-kept.ensures ∙ kept_set _ _ _ _ w.if-sign.true
      | else-sign w ↦ w.kept-is ∙ w.has-kept-else-sign.ensures ∙ kept_clear _ _ _ _ w.if-sign.false
    ]

pub condition_node-requires : goal.condition_node-requires
condition_node-requires c = (c.requires.0, (room (goal.at.condition_node-requires c).Start).plan.fits)

pub flag_at-f-requires : goal.flag_at-f-requires
flag_at-f-requires c = (c.requires.0, (room (goal.at.flag_at-f-requires c).Start).accepted)

pub set_at-sign-requires : goal.set_at-sign-requires
set_at-sign-requires c = (c.requires.0, (room (goal.at.set_at-sign-requires c).Start).accepted)

pub is_at-requires : goal.is_at-requires
is_at-requires c = (c.requires.0, (room (goal.at.is_at-requires c).Start).accepted)

pub bounds-tasks-node : goal.bounds-tasks-node
bounds-tasks-node c =
    let p = goal.at.bounds-tasks-node c in
    omega (arith, node_below p.After-from-node, (room p.Start).plan.fits.limits.nodes)

pub bounds-state-node : goal.bounds-state-node
bounds-state-node c =
    let p = goal.at.bounds-state-node c in omega (arith, node_below p.After-from-node, (room p.Start).room)

pub returns : goal.returns
unfolding marked
returns c =
    broken_turn _ _ _ _ _ _ _ _ _ _ _ _ _ (c.from-node.ensures ∙ c.condition_node.ensures)
    c.is_at.ensures refl c.flag_at-f.ensures.0
    c.set_at-sign.ensures (kept (goal.at.returns c).Joined-sign) c.differs.ensures
