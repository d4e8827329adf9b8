-- The pairs of children of an all-of group that must clobber a literal.
pub mod MustPairs
