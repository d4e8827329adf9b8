-- The tables of lengths and waits.
pub mod Filled
