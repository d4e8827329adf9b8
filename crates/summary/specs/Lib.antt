-- What the summary call answers and leaves; what computes; inner contracts.
pub mod Summary
pub mod Model
pub mod Inner
