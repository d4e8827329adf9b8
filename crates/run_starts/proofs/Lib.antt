-- The counts of started tasks (`counted`) and of ordinals, node by node (`held_one`); a state with an ordinal written
-- (`ordinal_own`); ordinals that 16 lets pass (`misnumbered_is`); and that they stay such after a start
-- (`start_numbering`).
pub mod Counts
pub mod Ordinals
pub mod Numbers
pub mod Numbering
