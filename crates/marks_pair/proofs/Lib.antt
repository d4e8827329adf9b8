-- Laws of the words of a pair of children.
pub mod Pairs
