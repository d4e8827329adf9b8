-- What all crates above may cite. Definitions only.
pub mod Bits
pub mod Words
pub mod Count
pub mod Answers
pub mod Bytes
pub mod Each
pub mod Zeros
pub mod Kinds
