-- Small plans are refused as 01 and 02 say (`examples`).
pub mod Refusals
