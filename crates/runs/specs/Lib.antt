-- And/or plans after Clement and Durfee (1999), and the claims of 01 about them.
-- What must be believed is in Plan, Execution, Summary, Verdict, Calls, Blocked and Violations, which hold definitions
-- and nothing else; Searches has the searches that the rules of the bytes cite. Of Pairs, TaskWith is what merged plans
-- are said to collide by.
pub mod Plan
pub mod Execution
pub mod Summary
pub mod Verdict
pub mod Calls
pub mod Blocked
pub mod Violations
pub mod Searches
-- What the theorems ask of a plan and say of it: demand 3 on plans, what blocking and orders keep, 01's rule by pairs;
-- what the rules by children are about; numbers that inner contracts cite.
pub mod WellFormed
pub mod Demand3
pub mod Branches
pub mod Pairs
pub mod Classes
pub mod Numbers
-- What computes, proved to be the same.
pub mod Tests
pub mod Model
