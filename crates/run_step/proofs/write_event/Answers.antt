-- `write_event` meets its contract. Assumes nothing.
use Rattle.run_step.specs.Steps.{with_event}
use native.Mathlib.Omega.{arith}
use Rattle.run_state.proofs.Passed.{has_room}
use Rattle.run_step.proofs.write_event.Goals as goal

pub mark_one-own-requires : goal.mark_one-own-requires
mark_one-own-requires c = omega (arith, c.requires.node, (has_room _ _ c.requires.passed).plan.fits.limits.nodes)

pub overflow_add-state : goal.overflow_add-state
overflow_add-state c = omega (arith, c.requires.node, (has_room _ _ c.requires.passed).plan.fits.limits.nodes)

pub bounds-state-task : goal.bounds-state-task
bounds-state-task c =
    let l = c.requires.node in
    let r = (has_room _ _ c.requires.passed).room in
    omega arith

pub returns : goal.returns
unfolding with_event
returns c =
    rw (
      c.store.ensures,
      c.with_literals-next.ensures,
      c.load.ensures,
      c.mark_one-own.ensures,
    )

pub load-requires : goal.load-requires
load-requires c = omega (arith, (has_room _ _ c.requires.passed).room)

pub with_literals-next-requires : goal.with_literals-next-requires
with_literals-next-requires c = (has_room _ _ c.requires.passed).accepted

pub store-requires : goal.store-requires
store-requires c = omega (arith, (has_room _ _ c.requires.passed).room)
