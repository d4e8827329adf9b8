-- Generated plans (02: soak books).
pub mod Sentences
pub mod Model
pub mod Inner
pub mod Calls
pub mod Rows
