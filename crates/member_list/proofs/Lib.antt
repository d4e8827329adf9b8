-- 15 and 16 by tests and in 02's words (`members_pass`, `is_15`, `is_16`).
pub mod Bytes
-- The marks of the nodes that stand, from the root down (`placed_all`).
pub mod Standing
