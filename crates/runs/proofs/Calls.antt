-- Laws of the monitor's calls.
pub mod Listed
pub mod Reflect
pub mod First
pub mod Together
pub mod Violation
pub mod Alone
pub mod Accepted
pub mod Rows
pub mod Lists
pub mod Numbered
pub mod Skips
pub mod Demand3
