-- Laws of segments and of walks over the children in one.
pub mod Segments
pub mod Turns
pub mod Walks
