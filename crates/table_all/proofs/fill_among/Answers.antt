-- `fill_among` meets its contract. Assumes nothing.
use native.Mathlib.Omega.{arith}
use Rattle.plan_check.proofs.Accepted.{clean}
use Rattle.table_all.proofs.Drawn.{before_orders}
use Rattle.table_all.proofs.Standing.{orders_left, left_represented}
use Rattle.table_all.proofs.fill_among.Goals as goal

pub nodes-requires : goal.nodes-requires
nodes-requires c = (clean _ c.requires.0).fits.limits.long

pub conditions-requires : goal.conditions-requires
conditions-requires c = (clean _ c.requires.0).fits.limits.long

pub overflow_add-nodes : goal.overflow_add-nodes
overflow_add-nodes c =
    let l = (clean _ c.requires.0).fits.limits in
    omega (arith, c.conditions.ensures, c.nodes.ensures, l.nodes, l.conditions)

pub fill_items-requires : goal.fill_items-requires
fill_items-requires c =
    let p = c.requires in
    let fresh = p.1 in (
      p.0,
      before_orders _ c.nodes.ensures c.conditions.ensures,
      fresh.no_kinds.long,
      fresh.no_order,
      fresh.no_conditions,
    )

pub fill_orders-requires : goal.fill_orders-requires
fill_orders-requires c =
    let n = c.nodes.ensures in
    let m = c.conditions.ensures in (
      c.requires.0,
      c.fill_items.ensures.no_orders (omega (arith, n, m)),
    )

pub returns : goal.returns
returns c =
    let ok = c.requires.0 in
    let n = c.nodes.ensures in
    let m = c.conditions.ensures in
    let i = c.fill_items.ensures in
    let t = c.fill_children.ensures in
    record {
      children = t;
      represents = λ S h. left_represented _ ok S h (i.kinds (omega (arith, n, m)))
          (i.conditions (omega (arith, n, m))) t.tree
          (orders_left _ ok S h c.fill_orders.ensures);
    }
