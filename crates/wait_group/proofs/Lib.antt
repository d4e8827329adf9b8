-- Laws of one group.
pub mod Orders
pub mod Children
