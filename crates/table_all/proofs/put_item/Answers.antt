-- `put_item` meets its contract, by the item's kind. Assumes nothing.
use native.Mathlib.Omega.{arith}
use Rattle.table_all.proofs.Stores.{fits_node, fits_condition, fits_order, stored_node, stored_condition}
use Rattle.table_all.proofs.Stores.{stored_order}
use Rattle.table_all.proofs.put_item.Goals as goal

pub returns-in-Node : goal.returns-in-Node
returns-in-Node c = stored_node _ _ _ _ c.in-Node.is

pub returns-in-Condition : goal.returns-in-Condition
returns-in-Condition c = stored_condition _ _ _ _ _ c.in-Condition.is
    c.from.ensures c.add_condition.ensures

pub returns-in-Order : goal.returns-in-Order
returns-in-Order c = stored_order _ _ _ _ _ c.in-Order.is
    c.from-in-Order.ensures c.from-in-Order-2.ensures c.link_all.ensures

pub bounds-kinds-at : goal.bounds-kinds-at
bounds-kinds-at c = fits_node _ c.in-Node.is c.requires.0

pub add_condition-requires : goal.add_condition-requires
add_condition-requires c =
    let f = fits_condition _ c.in-Condition.is c.requires.0 in
    (omega (arith, f.0, c.from.ensures), f.1, c.requires.2)

pub link_all-requires : goal.link_all-requires
link_all-requires c =
    let f = fits_order _ c.in-Order.is c.requires.0 in
    let d = c.from-in-Order.ensures in
    let e = c.from-in-Order-2.ensures in
    (omega (arith, f.0, d, e), omega (arith, f.1, e), c.requires.1)
