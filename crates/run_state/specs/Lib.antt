-- The state's bytes: what 15 and 16 ask and what they show; the flags after literals; the fresh state; inner contracts.
pub mod State
pub mod Inner
pub mod Made
pub mod Fresh
