-- The marks of a node of what is left of a plan.
pub mod Marks
