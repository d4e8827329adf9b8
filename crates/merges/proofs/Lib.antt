-- Plans that are alike from matched nodes down (`Matching`), and what follows of their marks (`pre_match`,
-- `clobber_match`).
pub mod Matching
pub mod SameMarks
-- Two plans side by side under an all-of root (`sides_clear`); the two parts of a merged plan are such (`sides`).
pub mod Sides
pub mod Halves
-- A merged plan is CLEAR exactly if both are and nothing collides (`merges_clear`).
pub mod Merging
