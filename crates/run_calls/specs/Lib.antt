pub mod Shown
pub mod Lists
pub mod Demand3
