-- Laws of the words of a group.
pub mod Any
pub mod All
pub mod Masks
pub mod Merge
