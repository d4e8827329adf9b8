-- The tables of a plan: sizes, segments of children, what it means that tables represent a plan.
pub mod Sizes
pub mod Segments
pub mod Represents
pub mod Walks
