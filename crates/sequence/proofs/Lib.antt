-- The words that a search is given (`mask_set`, `mask_skip`), and how many children the root has (`counted`).
pub mod Masks
pub mod Clobbers
pub mod Counted
pub mod Answers
pub mod Tables
