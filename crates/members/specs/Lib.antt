-- Members of an all-of root (02: the children that are aboard), and what is answered as they come and go.
pub mod Members
pub mod Model
