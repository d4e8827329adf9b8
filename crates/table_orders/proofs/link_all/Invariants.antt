-- `link_all` meets its contract: what comes before a below c stands before b, and at the end a does. Assumes nothing.
use Prim.Native.Nat.{◌≤◌}
use Rattle.table_orders.specs.Links.{Linked}
use Rattle.table_orders.proofs.Links.{Within}
use Rattle.table_orders.proofs.link_all.Given as goal

abbrev pub invariant-loop-c : goal.invariant-loop-c
invariant-loop-c l = (l.c ≤ l.a) × Linked l.initial.order l.order l.b (Within l.initial.order l.a l.c)
