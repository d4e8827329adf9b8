-- Laws of decimals, of written bytes, and of texts.
pub mod Written
pub mod Decimals
pub mod Writes
