-- The listing, and all that the program prints.
pub mod Refused
pub mod Model
pub mod Listing
