-- `add_waits` meets its contract: the longest waits below c, the waits within their groups from c on. Assumes nothing.
use mathlib.Core.Path.{◌∙◌}
use Rattle.plan_check.proofs.Accepted.{clean}
use Rattle.wait_tree.proofs.Down.{down_none, down_sum, down_more, down_all}
use Rattle.wait_lengths.proofs.Bounds.{end_limit}
use native.Mathlib.Omega.{arith}
use Rattle.wait_tree.proofs.add_waits.Goals as goal
use Rattle.wait_tree.proofs.add_waits.Goals.{After-from-p}
use Prim.Native.Nat.{◌<◌}

pub nodes-c-end-requires : goal.nodes-c-end-requires
nodes-c-end-requires c = (clean _ c.requires.0).fits.limits.long

pub loop-c-init : goal.loop-c-init
loop-c-init c = down_none (clean _ c.requires.0) c.requires.1

pub parent-requires : goal.parent-requires
parent-requires c = (omega arith, (clean _ c.requires.0).fits)

-- a node's number is one of the table
small : (c : After-from-p) → c.loop-c.c < 128
small c = omega (arith, (clean _ c.requires.0).fits.limits.nodes, c.nodes-c-end.ensures)

pub offset_bounds-waits-c : goal.offset_bounds-waits-c
offset_bounds-waits-c c = omega (arith, small (goal.at.offset_bounds-waits-c c).After-from-p)

pub bounds-waits-c : goal.bounds-waits-c
bounds-waits-c c = small (goal.at.bounds-waits-c c).After-from-p

pub bounds-waits-c-in-loop-c : goal.bounds-waits-c-in-loop-c
bounds-waits-c-in-loop-c c = small (goal.at.bounds-waits-c-in-loop-c c).After-from-p

pub bounds-waits-p : goal.bounds-waits-p
bounds-waits-p c =
    (down_sum (clean _ c.requires.0) (c.from-p.ensures ∙ c.parent.ensures)
    (omega arith) c.loop-c.invariant).0

pub overflow_add-waits : goal.overflow_add-waits
overflow_add-waits c =
    let ok = clean _ c.requires.0 in
    let s = down_sum ok (c.from-p.ensures ∙ c.parent.ensures) (omega arith)
    c.loop-c.invariant in
    omega (arith, s.1, end_limit _ ok c.loop-c.c (omega arith))

pub loop-c-preserved : goal.loop-c-preserved
loop-c-preserved c =
    let ok = clean _ c.requires.0 in
    let s = down_sum ok (c.from-p.ensures ∙ c.parent.ensures) (omega arith) c.loop-c.invariant in
    down_more ok (omega arith) (omega (arith, s.1)) c.loop-c.invariant

pub returns : goal.returns
returns c = down_all (clean _ c.requires.0) (omega arith) c.loop-c.invariant
