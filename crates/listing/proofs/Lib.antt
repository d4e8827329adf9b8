-- `printed_text`, `printed_refused`: what is printed, accepted and refused.
pub mod Printed
-- `refusal_is`: 01's words hold of the computed text of a refusal, and of no other.
pub mod Refused
-- `printed_prefix`: the first 5,137 bytes of an input print what the whole prints.
pub mod Prefix
-- `lists_text`, `prints`: what the listing answers, and what is printed by its answer.
pub mod Answers
