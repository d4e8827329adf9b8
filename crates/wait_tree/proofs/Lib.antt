-- Laws of the tables of lengths and waits.
pub mod Tasks
pub mod Groups
pub mod Down
