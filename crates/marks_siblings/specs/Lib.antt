-- What the siblings of a child in an all-of group allow, as words.
pub mod Group
pub mod Siblings
