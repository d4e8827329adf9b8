-- `find_orders` meets its contract: of the groups before i those that come before the next are found. Assumes nothing.
use Rattle.plan_draws.proofs.Orders.{FoundTo}
use Rattle.plan_draws.proofs.find_orders.Given as goal

abbrev pub invariant-loop-i : goal.invariant-loop-i
invariant-loop-i l = FoundTo l.fn.recipe l.ordered l.found l.i
