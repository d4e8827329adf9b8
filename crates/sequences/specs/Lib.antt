-- Sequences of the root's children (02: a serial order), the scan along one, and the search for the first.
pub mod Sequences
pub mod Model
pub mod Word
