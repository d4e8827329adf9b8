-- Laws of the table of children: while it is filled, and of its segments.
pub mod Counts
pub mod Segments
pub mod Places
pub mod Listed
pub mod Whole
