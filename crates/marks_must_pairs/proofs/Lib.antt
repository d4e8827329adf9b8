-- Laws of pairs that must clobber.
pub mod Pairs
