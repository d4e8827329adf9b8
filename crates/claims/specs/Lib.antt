-- Claims that take the promises of the calls as their hypotheses, and what these promises say of blocked nodes.
pub mod Left
pub mod Promises
pub mod Sequences
pub mod Members
pub mod Generated
pub mod Merged
