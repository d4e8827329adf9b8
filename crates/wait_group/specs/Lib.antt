-- One group, from the lengths of its children.
pub mod Spread
