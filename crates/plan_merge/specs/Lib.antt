-- Merged plans (02: pooled books).
pub mod Sentences
pub mod Model
pub mod Inner
pub mod Calls
pub mod Rows
