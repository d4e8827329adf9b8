-- What the call for a verdict answers; inner contracts.
pub mod Verdict
pub mod Inner
