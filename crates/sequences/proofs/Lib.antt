-- Lists of numbers: places in them (`ahead_trans`), ranks by counting, and counts by lists (`few`).
pub mod Lists
pub mod Ranks
pub mod Counted
-- The plan under a sequence is well formed (`serial_well_formed`), and the scan along the sequence decides whether it
-- is CLEAR (`serial_clear`), as a test too.
pub mod Serial
pub mod Scan
pub mod Reflect
-- The first sequence: what a search comes to, prefix by prefix, and that the one computed is sought (`sought`).
pub mod Prefixes
pub mod Search
-- A CLEAR plan has a sequence (`clear_found`), a DOOMED one has none (`doomed_unfound`).
pub mod Rising
-- The cases of an answer (`sought_23`, `sought_24`, `sought_found`), of which there is one (`sought_only`), and a
-- sequence as a word (`read_back`).
pub mod Cases
pub mod Word
-- Small plans, computed.
pub mod Tried
