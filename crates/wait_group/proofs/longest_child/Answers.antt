-- `longest_child` meets its contract: the greatest length of the children before i. Assumes nothing.
use Rattle.tables.proofs.Turns.{at_segment}
use Rattle.wait_group.proofs.Children.{at_group, child_at_lem, turn, greatest_turn, any_all}
use native.Mathlib.Omega.{arith}
use mathlib.Core.Path.{◌≡◌, refl, ap}
use Prim.Native.Nat.{◌+◌}
use lib.ListN.{get_or}
use Rattle.tables.specs.declared.Segment.{Segment}
use Rattle.wait_group.proofs.longest_child.Goals as goal

pub children-segment-requires : goal.children-segment-requires
children-segment-requires c = let o = at_group c.requires.0 in omega (arith, o.shaped.small, o.below)

pub loop-i-preserved : goal.loop-i-preserved
loop-i-preserved c =
    let at = turn c.args.from.now c.args.node c.children-segment.ensures (omega arith) (omega arith) in
    let x = c.requires.1.is _ (child_at_lem c.requires.0 refl c.from.ensures at) in
    greatest_turn at.low c.from.ensures x c.max-longest.ensures c.loop-i.invariant

pub returns : goal.returns
returns c =
    let here = c.children-segment.ensures in
    let a = at_segment (at_group c.requires.0) here in
    let e : c.loop-i.i ≡ get_or c.args.from.now (c.args.node + 1) 0 =
    omega (arith, a.rises, ap (λ (s : Segment). s.end) here) in
    any_all c.requires.0 refl (rw e at c.loop-i.invariant)
