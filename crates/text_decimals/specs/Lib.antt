-- Plain decimals, and bytes written into lent memory.
pub mod Decimals
pub mod Model
pub mod Writes
