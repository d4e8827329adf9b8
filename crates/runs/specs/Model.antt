-- The plan's relations, the marks, the verdict and the calls as tests and functions that compute. A name that ends in B
-- is a test; proofs/ ties each to the proposition that it tests, for every well-formed plan.
pub mod Trees
pub mod Marks
pub mod Verdicts
pub mod Monitor
pub mod Computing
pub mod Blocked
