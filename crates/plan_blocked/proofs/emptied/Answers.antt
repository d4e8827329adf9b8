-- `plan_blocked::emptied` meets its contract. Assumes nothing.
use mathlib.Core.Path.{◌≡◌, refl, ◌∙◌}
use Rattle.plan_format.specs.Format.{parent_of}
use Prim.Native.Nat.{◌<◌}
use Rattle.node_sets.specs.Sets.{marked}
use Rattle.plan_check.proofs.Accepted.{clean}
use Rattle.plan_blocked.specs.Branches.{emptied_at}
use Rattle.plan_blocked.proofs.Standing.{parent_lower}
use native.Mathlib.Omega.{arith}
use Rattle.plan_blocked.proofs.emptied.Goals as goal
use Rattle.plan_blocked.proofs.emptied.Goals.{After-from-g}

-- the parent is a node
parent_is : (c : After-from-g)
    → c.from-g.result ≡ parent_of c.args.plan.now c.args.s
parent_is c = c.from-g.ensures ∙ c.parent.ensures

small : (c : After-from-g) → c.from-g.result < 128
small c =
    let m = parent_lower _ c.requires.0 c.args.s c.from-g.result c.requires.1.0 c.requires.1.1 (parent_is c) in
    omega (arith, m, c.requires.1.1, (clean _ c.requires.0).fits.limits.nodes)

pub parent-requires : goal.parent-requires
parent-requires c = (c.requires.1.1, (clean _ c.requires.0).fits)

pub bounds-standing-g : goal.bounds-standing-g
bounds-standing-g c = small (goal.at.bounds-standing-g c).After-from-g

pub is_kind-requires : goal.is_kind-requires
is_kind-requires c = (clean _ c.requires.0).fits

pub bounds-marks-g : goal.bounds-marks-g
bounds-marks-g c = small (goal.at.bounds-marks-g c).After-from-g

pub returns : goal.returns
unfolding emptied_at marked
returns c = rw (c.is_kind.ensures, parent_is (goal.at.returns c).After-from-g) refl
