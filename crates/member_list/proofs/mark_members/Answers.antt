-- `mark_members` meets its contract: the nodes below c are marked if they stand. Assumes nothing.
use Rattle.base.proofs.Zeros.{zeros}
use Rattle.tables.specs.Sizes.{NODES}
use mathlib.Core.Path.{◌≡◌, ◌∙◌}
use Prim.Native.Nat.{◌<◌}
use native.Mathlib.Omega.{arith}
use Rattle.base.proofs.Zeros.{zeros}
use Rattle.plan_format.specs.Format.{node_count, parent_of}
use Rattle.plan_check.proofs.Accepted.{clean}
use Rattle.tables.specs.Sizes.{NODES}
use Rattle.plan_blocked.proofs.Standing.{parent_lower}
use Rattle.member_list.proofs.Standing.{placed_first, placed_member, placed_below, placed_all}
use Rattle.member_list.proofs.mark_members.Goals as goal
use Rattle.member_list.proofs.mark_members.Goals.{After-from-g, then-g-eq0, else-g-eq0}

pub nodes-c-end-requires : goal.nodes-c-end-requires
nodes-c-end-requires c = (clean _ c.requires.0).fits.limits.long

pub loop-c-init : goal.loop-c-init
loop-c-init c =
    let p = c.requires in
    (omega arith, (clean _ p.0).fits.limits.some_node, placed_first _ _ p.0 (zeros NODES))

pub parent-requires : goal.parent-requires
parent-requires c = (omega arith, (clean _ c.requires.0).fits)

pub bounds-members-c : goal.bounds-members-c
bounds-members-c c = omega (arith, c.requires.1)

pub bounds-standing-c : goal.bounds-standing-c
bounds-standing-c c = omega (arith, (clean _ c.requires.0).fits.limits.nodes)

parent_is : (c : After-from-g) → c.from-g.result ≡ parent_of c.args.plan.now c.loop-c.c
parent_is c = c.from-g.ensures ∙ c.parent.ensures

small : (c : After-from-g) → c.from-g.result < 128
small c =
    let l = c.loop-c in
    let lower = parent_lower _ c.requires.0 l.c c.from-g.result l.invariant.0 (omega arith) (parent_is c) in
    omega (arith, lower, (clean _ c.requires.0).fits.limits.nodes)

pub bounds-standing-g : goal.bounds-standing-g
bounds-standing-g c = small (goal.at.bounds-standing-g c).After-from-g

pub loop-c-preserved : goal.loop-c-preserved
loop-c-preserved c =
    let i = c.loop-c.invariant in
    let ok = c.requires.0 in
    let up = parent_is (goal.at.loop-c-preserved c).After-from-g in (
      omega arith,
      omega arith,
      elim c.if-g-eq0.branch [
        | then-g-eq0 w ↦ rw w.standing-is (placed_member _ _ ok i.2 i.0 (omega arith) up w.if-g-eq0.true)
        | else-g-eq0 w ↦ rw w.standing-is (placed_below _ _ ok i.2 i.0 (omega arith) up w.if-g-eq0.false)
      ],
    )

pub returns : goal.returns
returns c =
    let e : c.loop-c.c ≡ node_count c.args.plan.now = omega arith in
    placed_all _ _ c.requires.0 (rw e at c.loop-c.invariant.2)
