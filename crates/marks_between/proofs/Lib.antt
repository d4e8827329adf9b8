-- Laws of the flags that pass from one child of an all-of group to another, and of the word of a pair of children.
pub mod Passed
pub mod Pair
