-- The search by its steps: `follows` (a word tells whether a child may come next), `next_come` (one child further on),
-- `finds_all`, `finds_more`, `finds_none` (the ends of a search).
pub mod Places
pub mod Follows
pub mod Turns
