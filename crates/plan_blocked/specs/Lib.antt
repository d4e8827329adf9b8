-- A plan's bytes under a list of blocked nodes; inner contracts, of refusal 29 apart.
pub mod Blocked
pub mod Inner
pub mod Branches
