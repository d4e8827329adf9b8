-- The list of members as bytes: which nodes are members, and which lists are refused.
pub mod Members
pub mod Model
