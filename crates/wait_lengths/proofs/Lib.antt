-- Laws of lengths and longest waits.
pub mod Books
pub mod Greatest
pub mod Lengths
pub mod Sums
pub mod Bounds
pub mod Sentences
