-- `write_move` meets its contract. Assumes nothing.
use mathlib.Core.Path.{◌≡◌}
use Prim.Native.Nat.{◌≤◌}
use lib.ListN.{length}
use native.Mathlib.Omega.{arith}
use borrow.Author.Rules.{rules}
use Rattle.run_state.proofs.Refused.{fits}
use Rattle.run_state.proofs.Passed.{has_room}
use Rattle.run_starts.proofs.Counts.{started_le}
use Rattle.run_refusals.specs.declared.Move.TheVariants.{Start, Finish}
use Rattle.run_step.proofs.Moves.{start_written, finish_written}
use Rattle.run_step.proofs.write_move.Goals as goal
use Rattle.run_step.proofs.write_move.Goals.{After-started-k}

pub started-k-requires : goal.started-k-requires
started-k-requires c = fits _ _ (has_room _ _ c.requires.passed)

-- the ordinal is one of a node's
small : (c : After-started-k) → c.started-k.result ≤ 128
small c =
    omega (
      arith,
      c.started-k.ensures,
      started_le c.args.plan.now c.args.state.now,
      (has_room _ _ c.requires.passed).plan.fits.limits.nodes,
    )

pub overflow_add-k : goal.overflow_add-k
overflow_add-k c = omega (arith, small (goal.at.overflow_add-k c).After-started-k)

pub write_ordinal-requires : goal.write_ordinal-requires
write_ordinal-requires c =
    let r = has_room _ _ c.requires.passed in
    let z : length c.write_event.new.state ≡ length c.args.state.now = search rules in (
      c.requires.node,
      (
        omega (arith, small (goal.at.write_ordinal-requires c).After-started-k),
        record { plan = r.plan.fits; room = omega (arith, z, r.room) },
      ),
    )

pub returns-in-Start : goal.returns-in-Start
returns-in-Start c =
    let k = c.started-k.ensures in
    let e : c.args.m ≡ Start = cc in
    start_written _ _ _ _ _ c.asserted_place.ensures e _ _ _
    c.write_event.ensures (omega (arith, k))
    c.write_ordinal.ensures

pub returns-in-Finish : goal.returns-in-Finish
returns-in-Finish c =
    let e : c.args.m ≡ Finish = cc in
    finish_written _ _ _ _ _ c.asserted_place-in-Finish.ensures e _ c.write_event-in-Finish.ensures
