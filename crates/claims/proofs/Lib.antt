-- `lists_read`: what is left of a plan, 28 and 29, are what 02 says.
pub mod Left
-- `blocking_promise` and `orders_promise`: 02's two promises hold.
pub mod Promises
-- `sequences_agree`: a CLEAR plan meets 23 or has a sequence (101), a DOOMED one has none; `sequences_same`: a plan has
-- one answer (109).
pub mod Sequences
-- `members_claim`: after every list of calls that include and exclude members, from nobody, the last answer is the
-- verdict for the members, and the bytes show them (111).
pub mod Members
-- `one_plan` and `plans_same`: a recipe has one plan (110).
pub mod Generated
-- `merged_clear`: the plan merged from two is CLEAR exactly if both are and nothing collides; `one_merged`: it is one
-- plan (112).
pub mod Merged
