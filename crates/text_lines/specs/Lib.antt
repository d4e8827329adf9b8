-- The task lines of the listing.
pub mod Lines
pub mod Model
