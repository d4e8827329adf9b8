-- `plan_blocked::unblockable` meets its contract. Assumes nothing.
use mathlib.Core.Path.{◌∙◌}
use Rattle.plan_check.proofs.Accepted.{clean}
use Rattle.plan_blocked.proofs.Listed.{root, outside, inside}
use native.Mathlib.Omega.{arith}
use Rattle.plan_blocked.proofs.unblockable.Goals as goal

pub returns : goal.returns
returns c =
    let e = c.from-g.ensures ∙ c.parent.ensures in
    rw (c.is_kind.ensures, c.is_kind-2.ensures)
    (inside _ _ c.requires (omega arith) (omega arith) c.from-g.result e)

pub returns-then-s-eq0 : goal.returns-then-s-eq0
returns-then-s-eq0 c = root _ _ c.if-s-eq0.true

pub nodes-requires : goal.nodes-requires
nodes-requires c = (clean _ c.requires).fits.limits.long

pub returns-then-nodes-s : goal.returns-then-nodes-s
returns-then-nodes-s c = outside _ _ (omega arith)

pub parent-requires : goal.parent-requires
parent-requires c = (omega arith, (clean _ c.requires).fits)

pub is_kind-requires : goal.is_kind-requires
is_kind-requires c = (clean _ c.requires).fits

pub is_kind-requires-2 : goal.is_kind-requires-2
is_kind-requires-2 c = (clean _ c.requires).fits
