-- `raise` meets its contract: the orders of c below j are done. Assumes nothing.
use mathlib.Core.Path.{◌∙◌}
use Prim.Native.Nat.{◌<◌}
use Rattle.plan_check.proofs.Accepted.{clean}
use Rattle.table_orders.proofs.Chains.{sorted}
use Rattle.wait_group.proofs.Orders.{raised_none, raised_more, raised_all, raised_stop}
use native.Mathlib.Omega.{arith}
use Rattle.wait_group.proofs.raise.Goals as goal
use Rattle.wait_group.proofs.raise.Goals.{After-from-l}

pub orders-j-end-requires : goal.orders-j-end-requires
orders-j-end-requires c = (clean _ c.requires.0).fits.limits.long

pub loop-j-init : goal.loop-j-init
loop-j-init c = raised_none c.requires.1 c.first_order-j.ensures

pub earlier-requires : goal.earlier-requires
earlier-requires c = (omega arith, (clean _ c.requires.0).fits)

pub returns-then-from-c : goal.returns-then-from-c
returns-then-from-c c =
    raised_stop (sorted _ (clean _ c.requires.0)) (omega arith)
    (λ z. c.if-from-c.true (c.from.ensures ∙ c.earlier.ensures ∙ z)) c.loop-j.invariant

pub later-requires : goal.later-requires
later-requires c = (
  omega arith,
  (clean _ c.requires.0).fits,
)

-- the later task is a node's number
later_small : (c : After-from-l) → c.from-l.result < 128
later_small c = omega (
  arith,
  (sorted _ (clean _ c.requires.0)).small c.loop-j.j (omega arith),
  c.from-l.ensures,
  c.later.ensures,
)

pub bounds-waits-l : goal.bounds-waits-l
bounds-waits-l c = later_small (goal.at.bounds-waits-l c).After-from-l

pub bounds-waits-l-in-loop-j : goal.bounds-waits-l-in-loop-j
bounds-waits-l-in-loop-j c = later_small (goal.at.bounds-waits-l-in-loop-j c).After-from-l

pub loop-j-preserved : goal.loop-j-preserved
loop-j-preserved c =
    raised_more (sorted _ (clean _ c.requires.0)) (omega arith)
    (omega (arith, c.if-from-c.false, c.from.ensures, c.earlier.ensures))
    (c.from-l.ensures ∙ c.later.ensures) c.max.ensures c.loop-j.invariant

pub returns : goal.returns
returns c = raised_all (λ i a z e. omega arith) c.loop-j.invariant
