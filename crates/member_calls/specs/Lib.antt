-- What a call that includes or excludes a member promises; the same computed; inner contracts.
pub mod Calls
pub mod Model
pub mod Inner
