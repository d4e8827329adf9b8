-- A whole plan has its head.
pub mod Whole
