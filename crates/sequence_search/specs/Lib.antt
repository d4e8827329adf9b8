-- The search for a sequence, in words.
pub mod Search
