-- 28 of a list (`rising_28`); the marks of the nodes that stand (`stood_all`); 29 by the marks of their groups
-- (`emptied_29`); and the refusals of plan and list one after another (`none_refused`, `blocks`).
pub mod Listed
pub mod Standing
pub mod Branches
pub mod Refused
