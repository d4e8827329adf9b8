-- Flags in bytes; flags that are all alike.
pub mod Flags
pub mod Inner
