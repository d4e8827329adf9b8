-- The numbers of the answers; inner contracts.
pub mod Numbers
pub mod Inner
