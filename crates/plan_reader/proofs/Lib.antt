-- Which item stands at a position (`item_node`, `item_condition`, `item_order`).
pub mod Positions
