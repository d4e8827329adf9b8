-- The plan of the members: it is well formed, and the only one (`only_members`); with nobody it is CLEAR
-- (`nobody_clear`), with everybody it is the plan (`everybody`).
pub mod Parts
-- What is answered, by one call and by a list of them (`member_only`, `worked_only`); the last verdict is that of the
-- members after them (`along_after`, `last_clear`, `last_whole`).
pub mod Answers
pub mod Lists
-- Small plans, computed.
pub mod Tried
