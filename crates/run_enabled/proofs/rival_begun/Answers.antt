-- `run_enabled::rival_begun` meets its contract. Assumes nothing.
use Prim.Native.Nat.{◌<◌}
use Rattle.plan_format.specs.Format.{node_count}
use Rattle.run_starts.specs.Starts.{node_byte}
use Rattle.run_state.proofs.Refused.{Roomy}
use Rattle.run_state.proofs.Passed.{has_room, byte_inside}
use Rattle.run_enabled.proofs.Marks.{parent_lower}
use native.Mathlib.Omega.{arith}
use borrow.Author.Tests.{tests}
use Rattle.std.proofs.Common.{rules}
use Rattle.run_enabled.specs.Enabling.{rival_at}
use Rattle.run_enabled.proofs.rival_begun.Goals as goal
use Rattle.run_enabled.proofs.rival_begun.Goals.{Start}

room : (c : Start) → Roomy c.args.plan.now c.args.state.now
room c = has_room _ _ c.requires.n_nonzero.1.1.1

node_small : (c : Start) → c.args.n < 128
node_small c = omega (arith, c.requires.n_nonzero.1.0, (room c).plan.fits.limits.nodes)

parent_below : (c : Start) → c.args.g < node_count c.args.plan.now
parent_below c = omega (
  arith,
  c.requires.n_nonzero.1.0,
  parent_lower c.args.plan.now (room c).accepted c.args.n c.args.g c.requires.n_nonzero.0 c.requires.n_nonzero.1.0
      c.requires.n_nonzero.1.1.0,
)

parent_small : (c : Start) → c.args.g < 128
parent_small c = omega (arith, parent_below c, (room c).plan.fits.limits.nodes)

pub overflow_add-skipped : goal.overflow_add-skipped
overflow_add-skipped c = omega (arith, parent_small (goal.at.overflow_add-skipped c).Start)

pub bounds-state-g : goal.bounds-state-g
bounds-state-g c =
    byte_inside _ _ c.requires.n_nonzero.1.1.1 _ (parent_below (goal.at.bounds-state-g c).Start)

pub is_begun-requires : goal.is_begun-requires
is_begun-requires c =
    let r = c.requires in
    (r.n_nonzero.1.0, (r.n_nonzero.1.1.1, r.counted c.args.n (node_small (goal.at.is_begun-requires c).Start)))

pub is_kind-requires : goal.is_kind-requires
is_kind-requires c = (room (goal.at.is_kind-requires c).Start).plan.fits

pub bounds-begun-g : goal.bounds-begun-g
bounds-begun-g c = parent_small (goal.at.bounds-begun-g c).Start

pub returns-else-skipped : goal.returns-else-skipped
unfolding rival_at node_byte
returns-else-skipped c =
    let k = c.requires.counted c.args.g (parent_small (goal.at.returns-else-skipped c).Start) in
    search (rules, tests)
