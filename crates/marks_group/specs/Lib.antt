-- The words of a group, from the rows of its children.
pub mod Groups
pub mod Masks
pub mod Empty
