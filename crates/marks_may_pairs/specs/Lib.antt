-- The pairs of children of an all-of group that may clobber a literal.
pub mod Search
