-- The text of the task lines.
pub mod Text
pub mod Examples
