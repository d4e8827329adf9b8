-- A move is written part by part; what the bytes then are (`event_written`) and show (`shows_status`, `shows_flag`,
-- `shows_ordinal`, `still_well`); the finishes of a list in one pass (`all_written`).
pub mod Moves
pub mod Written
pub mod After
pub mod Finishes
