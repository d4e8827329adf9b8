-- Laws of the verdict.
pub mod Start
pub mod Judging
