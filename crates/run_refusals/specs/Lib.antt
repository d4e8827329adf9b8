-- The refusal of a call; inner contracts, and the chain of a refusal part by part.
pub mod Events
pub mod Inner
pub mod Parts
