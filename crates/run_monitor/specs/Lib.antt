pub mod Status
pub mod Model
pub mod Events
