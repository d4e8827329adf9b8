-- Laws of the table of relation codes.
pub mod Links
pub mod Chains
pub mod Table
pub mod Among
