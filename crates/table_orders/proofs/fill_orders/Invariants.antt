-- `fill_orders` meets its contract: the table has the first i orders, those between nodes that stand. Assumes nothing.
use Prim.Native.Nat.{◌≤◌}
use Rattle.plan_format.specs.Format.{order_count}
use Rattle.table_orders.proofs.Table.{Tabled}
use Rattle.table_orders.proofs.Among.{In}
use Rattle.table_orders.proofs.fill_orders.Given as goal

abbrev pub invariant-loop-i : goal.invariant-loop-i
invariant-loop-i l = (l.i ≤ order_count l.plan) × Tabled l.plan (In l.standing) l.order l.i
