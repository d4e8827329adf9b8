-- The table of children, filled from a plan's bytes.
pub mod Children
