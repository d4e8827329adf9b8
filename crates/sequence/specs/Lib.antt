-- What the call for a sequence answers; inner contracts.
pub mod Sequence
pub mod Inner
