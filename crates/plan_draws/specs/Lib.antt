-- The draws of a generated plan: one after another, by their numbers, and the fields that they give.
pub mod Drawn
pub mod Model
pub mod Inner
