-- `run_enabled::open_at` meets its contract. Assumes nothing.
use Prim.Native.Nat.{◌<◌}
use Rattle.plan_format.specs.Format.{node_count, earlier_of, later_of}
use Rattle.run_state.proofs.Refused.{Roomy}
use Rattle.run_state.proofs.Passed.{has_room}
use Rattle.run_enabled.proofs.Orders.{order_nodes}
use native.Mathlib.Omega.{arith}
use Rattle.run_enabled.proofs.open_at.Goals as goal
use Rattle.run_enabled.proofs.open_at.Goals.{After-from-a, Start}

room : (c : Start) → Roomy c.args.plan.now c.args.state.now
room c = has_room _ _ c.requires.j_bound.1

nodes : (c : Start) → (earlier_of c.args.plan.now c.args.j < node_count c.args.plan.now)
    × (later_of c.args.plan.now c.args.j < node_count c.args.plan.now)
nodes c = order_nodes _ (room c).accepted c.args.j c.requires.j_bound.0

node_below : (c : After-from-a) → c.from-a.result < node_count c.args.plan.now
node_below c = omega (
  arith,
  c.from-a.ensures,
  c.earlier.ensures,
  (order_nodes _ (has_room _ _ c.requires.j_bound.1).accepted c.args.j c.requires.j_bound.0).0,
)

pub earlier-requires : goal.earlier-requires
earlier-requires c = (c.requires.j_bound.0, (room (goal.at.earlier-requires c).Start).plan.fits)

pub later-requires : goal.later-requires
later-requires c = (c.requires.j_bound.0, (room (goal.at.later-requires c).Start).plan.fits)

pub bounds-marks-z : goal.bounds-marks-z
bounds-marks-z c = omega (
  arith,
  c.from-z.ensures,
  c.later.ensures,
  (nodes (goal.at.bounds-marks-z c).Start).1,
  (room (goal.at.bounds-marks-z c).Start).plan.fits.limits.nodes,
)

pub is_complete-requires : goal.is_complete-requires
is_complete-requires c =
    let l = node_below (goal.at.is_complete-requires c).After-from-a in (
      l,
      (
        c.requires.j_bound.1,
        c.requires.counted c.from-a.result
            (omega (arith, l, (room (goal.at.is_complete-requires c).Start).plan.fits.limits.nodes)),
      ),
    )
