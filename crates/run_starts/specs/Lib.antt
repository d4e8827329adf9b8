-- The nodes in a state's bytes; what is asked where they are read.
pub mod Starts
pub mod Inner
