-- `spread` meets its contract: the children before i are done, and the orders of each are met. Assumes nothing.
use Rattle.tables.proofs.Turns.{at_segment}
use Rattle.tables.specs.Segments.{segment_of, Position}
use Rattle.wait_group.proofs.Children.{at_group, turn, spread_end, spread_more, spread_all}
use native.Mathlib.Omega.{arith}
use mathlib.Core.Path.{◌≡◌, refl, ap}
use Prim.Native.Nat.{◌+◌}
use lib.ListN.{get_or}
use Rattle.tables.specs.declared.Segment.{Segment}
use Rattle.wait_group.proofs.spread.Goals as goal
use Rattle.wait_group.proofs.spread.Goals.{After-from-child}

pub children-segment-requires : goal.children-segment-requires
children-segment-requires c = let o = at_group c.requires.0 in omega (arith, o.shaped.small, o.below)

at : (c : After-from-child) → Position (segment_of c.args.from.now c.args.node) c.loop-i.i
at c = turn c.args.from.now c.args.node c.children-segment.ensures (omega arith) (omega arith)

pub overflow_add-child_end : goal.overflow_add-child_end
overflow_add-child_end c =
    let e = spread_end c.requires.0 refl c.from-child.ensures (at (goal.at.overflow_add-child_end c).After-from-child)
    c.loop-i.invariant c.requires.2 in
    omega (arith, e.0, e.1)

pub raise-requires : goal.raise-requires
raise-requires c = (c.requires.0.accepted, c.loop-i.invariant.tables.waits_long)

pub loop-i-preserved : goal.loop-i-preserved
loop-i-preserved c =
    let e = c.from-child.ensures in
    let p = at (goal.at.loop-i-preserved c).After-from-child in
    let x = spread_end c.requires.0 refl e p c.loop-i.invariant c.requires.2 in
    spread_more c.requires.0 refl e p c.loop-i.invariant x.0 c.raise.ensures
    (omega arith)

pub returns : goal.returns
returns c =
    let here = c.children-segment.ensures in
    let a = at_segment (at_group c.requires.0) here in
    let e : c.loop-i.i ≡ get_or c.args.from.now (c.args.node + 1) 0 =
    omega (arith, a.rises, ap (λ (s : Segment). s.end) here) in
    spread_all c.requires.0 refl (rw e at c.loop-i.invariant)
