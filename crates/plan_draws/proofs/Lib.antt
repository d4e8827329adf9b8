-- The draws that 02 makes one after another, by their numbers (`draws_of`, `draws_only`); the tables of draws and of
-- orders as they are filled.
pub mod Drawn
pub mod Picked
pub mod Fields
pub mod Orders
pub mod PickedPairs
