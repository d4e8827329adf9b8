-- Lengths and longest waits.
pub mod Waits
pub mod Sentences
