-- Complete and begun by the counts of children (`all_complete`, `other_complete`, `node_begun`), and the table of the
-- counts, turn by turn (`all_counted`).
pub mod Progress
pub mod Pass
