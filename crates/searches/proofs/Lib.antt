-- What `any` answers, over the numbers below n (`any_numbers`) and over a list (`any_listed`).
pub mod Any
