-- 19 by the numbers of begun branches along the way up (`begun_yes`, `begun_no`); the marks along it (`last_mark`); and
-- 20 by the orders of the bytes (`open_is`).
pub mod Branches
pub mod Marks
pub mod Orders
