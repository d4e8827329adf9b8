-- Every generated plan is accepted (`generated_accepted`), is the plan of its recipe in 02's words (`is_generated`),
-- and is the only one (`generated_only`); the rows hold (`rows_hold`, `small_left`).
pub mod Bytes
pub mod Accepted
pub mod Sentences
pub mod Only
pub mod Calls
pub mod Rows
