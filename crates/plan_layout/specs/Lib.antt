-- The layout of a plan's bytes, the bytes of its fields, and a plan that is written part by part.
pub mod Layout
pub mod Fields
pub mod Written
