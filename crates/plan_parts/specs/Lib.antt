-- A plan by its parts.
pub mod Read
pub mod Joined
pub mod Inner
