-- Laws of plans.
pub mod Numbers
pub mod Trees
pub mod Chains
pub mod Reflect
pub mod Accepted
pub use Numbers.*
pub use Trees.*
pub use Chains.*
pub use Reflect.*
unfoldable pub use Accepted.*
