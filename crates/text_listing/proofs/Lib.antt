-- `text_fits`: the text has at most 1,666 bytes.
pub mod Text
-- `listing_is`: 01's words hold of the computed text, and of no other.
pub mod Sentences
