-- The chain of causes (`rest`); bytes that it passes (`clean`); the plan that they mean, which is well formed
-- (`means_well_formed`); and its nodes by the tests of the bytes (`plan_kind`, `is_child`).
pub mod Chain
pub mod Accepted
pub mod Meaning
pub mod Nodes
