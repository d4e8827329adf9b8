-- The text of a listing.
pub mod Text
pub mod Sentences
pub mod Model
