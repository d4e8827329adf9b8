-- Laws of what the siblings of a child allow.
pub mod Sibling
