-- Sets of nodes: one node; by tables and lists.
pub mod One
pub mod Sets
