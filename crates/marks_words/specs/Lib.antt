-- The marks of a node as words over the flags, from its row and from tables.
pub mod Words
pub mod Tables
