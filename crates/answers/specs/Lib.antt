-- The causes for which calls are refused, by number.
pub mod Refusals
