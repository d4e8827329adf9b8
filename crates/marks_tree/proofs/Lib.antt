-- Laws of the rows of all nodes.
pub mod Open
pub mod AllRow
pub mod Children
