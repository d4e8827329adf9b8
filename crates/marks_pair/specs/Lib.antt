-- The pairs of children of an all-of group that clobber a literal.
pub mod Pairs
