-- Tables filled in either way.
pub mod Filled
