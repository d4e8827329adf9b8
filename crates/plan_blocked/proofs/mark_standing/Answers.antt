-- `plan_blocked::mark_standing` meets its contract. Assumes nothing.
use Rattle.base.proofs.Zeros.{zeros}
use Rattle.tables.specs.Sizes.{NODES}
use mathlib.Core.Path.{◌≡◌, ◌∙◌}
use Prim.Native.Nat.{◌<◌}
use Rattle.node_sets.specs.Sets.{marked}
use Rattle.plan_format.specs.Format.{node_count, parent_of}
use Rattle.plan_check.proofs.Accepted.{clean}
use Rattle.plan_blocked.proofs.Standing.{parent_lower, stood_first, absent_here, stands_here}
use Rattle.plan_blocked.proofs.Standing.{stood_out, stood_in, stood_all}
use Rattle.plan_blocked.proofs.Branches.{partly_first, partly_more, partly_same, partly_all}
use native.Mathlib.Omega.{arith}
use Rattle.plan_blocked.proofs.mark_standing.Goals as goal
use Rattle.plan_blocked.proofs.mark_standing.Goals.{After-from-g, In-loop-c, then-blocked-c, else-blocked-c}

pub loop-c-init : goal.loop-c-init
loop-c-init c = (
  omega arith,
  (
    (clean _ c.requires.0).fits.limits.some_node,
    (stood_first _ c.requires.0 _ c.requires.1.0 c.requires.1.1, partly_first _ _ (zeros NODES)),
  ),
)

node_small : (c : In-loop-c) → c.loop-c.c < 128
node_small c = omega (arith, (clean _ c.requires.0).fits.limits.nodes)

parent_is : (c : After-from-g) → c.from-g.result ≡ parent_of c.args.plan.now c.loop-c.c
parent_is c = c.from-g.ensures ∙ c.parent.ensures

small : (c : After-from-g) → c.from-g.result < 128
small c =
    let i = c.loop-c.invariant in
    let m = parent_lower _ c.requires.0 c.loop-c.c c.from-g.result i.0 (omega arith) (parent_is c) in
    omega (arith, m, (clean _ c.requires.0).fits.limits.nodes)

pub loop-c-preserved : goal.loop-c-preserved
unfolding marked
loop-c-preserved c =
    let i = c.loop-c.invariant in
    let ok = c.requires.0 in
    let w = (goal.at.loop-c-preserved c).After-from-g in (
      omega arith,
      (
        omega arith,
        elim c.if-blocked-c.branch [
          | then-blocked-c z ↦ rw (z.standing-is, z.marks-is) (
            stood_out _ ok _ i.1.1.0 i.0 (omega arith) (parent_is w) z.if-blocked-c.true,
            partly_same _ _ i.1.1.1 i.0 (omega arith)
                (absent_here _ ok _ i.1.1.0 i.0 (omega arith) (parent_is w) z.if-blocked-c.true),
          )
          | else-blocked-c z ↦ rw (z.standing-is, z.marks-is) (
            stood_in _ ok _ i.1.1.0 i.0 (omega arith) (parent_is w) z.if-blocked-c.false,
            partly_more _ _ i.1.1.1 i.0 (omega arith) w.from-g.result (parent_is w) (small w)
                (stands_here _ ok _ i.1.1.0 i.0 (omega arith) (parent_is w) z.if-blocked-c.false),
          )
        ],
      ),
    )

pub returns : goal.returns
returns c =
    let e : c.loop-c.c ≡ node_count c.args.plan.now = omega arith in
    (stood_all _ c.requires.0 _ (rw e at c.loop-c.invariant.1.1.0), partly_all _ _ (rw e at c.loop-c.invariant.1.1.1))

pub nodes-c-end-requires : goal.nodes-c-end-requires
nodes-c-end-requires c = (clean _ c.requires.0).fits.limits.long

pub parent-requires : goal.parent-requires
parent-requires c = (omega arith, (clean _ c.requires.0).fits)

pub bounds-blocked-c : goal.bounds-blocked-c
bounds-blocked-c c = node_small (goal.at.bounds-blocked-c c).In-loop-c

pub bounds-standing-c : goal.bounds-standing-c
bounds-standing-c c = node_small (goal.at.bounds-standing-c c).In-loop-c

pub bounds-standing-g : goal.bounds-standing-g
bounds-standing-g c = small (goal.at.bounds-standing-g c).After-from-g
