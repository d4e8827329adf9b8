-- Rows of words that hold the facts of a plan's nodes.
pub mod Columns
pub mod Tasks
pub mod Musts
