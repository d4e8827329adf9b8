-- The fields of a plan's bytes; bytes that have them all.
pub mod Format
pub mod Pieces
pub mod Whole
