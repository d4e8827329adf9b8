-- The chain of refusals 1 to 16 (`state_good`, `bad_parts`); a state that is not malformed, part by part
-- (`well_under`); the state that `fresh` leaves (`fresh_accepted`) and what it shows (`fresh_started`); what calls rest
-- on after the checks (`well_passed`, `byte_is`); and plans without optional groups (`plain_plan`).
pub mod Refused
pub mod Well
pub mod Left
pub mod Shown
pub mod Passed
pub mod Plain
