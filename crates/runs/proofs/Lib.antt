-- The library's names under one roof; tests that reflect propositions (`same_test`); searches among numbers, and the
-- laws of a search loop (`search_finds`, `search_ends`).
pub mod Base
pub mod Reflect
pub mod Searches
-- Plans, their executions, summaries and verdict: what the tests compute is what 01 and 02 say; each of these declares
-- its parts.
pub mod Plan
pub mod Execution
pub mod Summary
pub mod Verdict
-- The monitor's calls, up to demand 3; blocked branches; and plans without optional groups, those of 01.
pub mod Calls
pub mod Blocked
pub mod Plain
