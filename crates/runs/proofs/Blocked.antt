-- Laws of blocked branches (the definitions: specs/Blocked).
-- Fewer branches and more orders keep CLEAR and DOOMED.
pub mod Thinner
-- Absent subtrees: what stands, and that the plan is well formed.
pub mod Standing
-- A node has the same marks in two plans that are the same from it down (`marks_alike`).
pub mod Alike
-- 28 and 29, and the two promises.
pub mod Branches
-- The monitor's table.
pub mod Monitor
