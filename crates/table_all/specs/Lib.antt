-- The tables of a plan, filled from its bytes.
pub mod Filled
