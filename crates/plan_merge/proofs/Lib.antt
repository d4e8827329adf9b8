-- The fields of two plans, merged, obey the rules (`merged_valid`); bytes with these fields are the merged plan in 02's
-- words (`is_merged`), the only one (`merged_only`), CLEAR exactly as 02 says (`clear_exactly`); the call answers and
-- leaves what 02 says (`merges`); the rows at the limits hold (`limits_hold`).
pub mod Fields
pub mod Contained
pub mod Valid
pub mod Bytes
pub mod Sentences
pub mod Counts
pub mod Only
pub mod Meaning
pub mod Calls
pub mod Left
pub mod Rows
