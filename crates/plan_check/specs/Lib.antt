-- What the bytes of a plan mean; inner contracts.
pub mod Meaning
pub mod Means
pub mod Parts
