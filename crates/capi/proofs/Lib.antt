-- Lengths are small enough to have numbers (`short`, `plan_short`, `merged_short`), and the numbers of answers tell
-- what the answers do (`verdict_told`, `status_told`, `listing_told`, `sequence_told`, `member_told`, `generated_told`,
-- `merged_told`).
pub mod Numbers
pub mod Listing
pub mod Told
pub mod Sequence
pub mod Members
pub mod Written
pub mod Generated
pub mod Merged
