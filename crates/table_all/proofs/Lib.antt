-- Laws of the tables while they are filled: of the conditions and of the kinds; of both with the orders, item by item
-- (`drawn_more`, `drawn_to`); of what one item stores; and of the filled tables without blocked nodes
-- (`left_represented`).
pub mod Conditions
pub mod NodeKinds
pub mod Drawn
pub mod Stores
pub mod Standing
