-- Each cause has a number from 1 (`some_number`); refusals are no answers (`not_ok`).
pub mod Refusals
