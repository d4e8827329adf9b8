-- Name characters, the value of a condition, its value by the cases of enums.
pub mod Names
pub mod Values
pub mod Cases
