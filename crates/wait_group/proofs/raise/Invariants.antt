-- `raise` meets its contract: the orders of c below j are done. Assumes nothing.
use Rattle.wait_group.proofs.Orders.{RaisedTo}
use Rattle.wait_group.proofs.raise.Given as goal

abbrev pub invariant-loop-j : goal.invariant-loop-j
invariant-loop-j l = RaisedTo l.plan l.initial.waits l.waits l.c l.end l.j
