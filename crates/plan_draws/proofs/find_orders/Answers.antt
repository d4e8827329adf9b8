-- `find_orders` meets its contract: of the groups before i those that come before the next are found. Assumes nothing.
use Rattle.std.proofs.Common.{arith}
use Rattle.plan_draws.proofs.Orders.{found_none, found_one, found_same, found_all, comes, comes_not}
use Rattle.plan_draws.proofs.find_orders.Goals as goal
use Rattle.plan_draws.proofs.find_orders.Goals.{else-draws-first-eq1, then-draws-first-eq1}

pub loop-i-init : goal.loop-i-init
loop-i-init c = found_none _ c.requires.0 _ c.requires.2

pub loop-i-preserved : goal.loop-i-preserved
loop-i-preserved c =
    let ok = c.requires.0 in
    let d = c.requires.1 in
    elim c.if-draws-first-eq1.branch [
      | then-draws-first-eq1 w ↦ found_one _ ok _ _ _ _ c.loop-i.i (omega arith) c.loop-i.invariant
          (comes _ ok _ d _ (omega arith) w.if-draws-first-eq1.true) w.ordered-is w.found-is
      | else-draws-first-eq1 w ↦ found_same _ ok _ _ _ _ c.loop-i.i (omega arith) c.loop-i.invariant
          (comes_not _ ok _ d _ (omega arith) w.if-draws-first-eq1.false) w.ordered-is w.found-is
    ]

pub returns : goal.returns
returns c = found_all _ c.requires.0 (omega arith) c.loop-i.invariant
