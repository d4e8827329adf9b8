-- Laws of the verdict.
pub mod Exact
