-- A trial as one test that computes (`all_hold`), whether a state is refused (`all_checked`), what is answered for a
-- sequence (`all_sequenced`), for members (`all_called`) and for merged plans (`all_merged`, `all_judged`); that the
-- trials of 01 and 02 hold (`starred_hold`); and that plan B in pieces is plan B (`bytes_of_B`).
pub mod Tests
pub mod Checks
pub mod Sequences
pub mod Members
pub mod Merged
pub mod Holding
pub mod Bytes
