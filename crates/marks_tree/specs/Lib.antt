-- The rows of all nodes of a plan.
pub mod Clobbers
pub mod Filled
