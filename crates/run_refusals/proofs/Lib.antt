-- What moves are (`node_of`), and nodes of a kind by the bytes (`task_is`, `broken_by`); the chains of tests
-- (`start_chain`, `tree_20`); the refusals of an event with them (`answer_17` to `answer_broken`, `skip_tree`,
-- `accepted_stands`); those of several finishes.
pub mod Moves
pub mod OfKind
pub mod Chains
pub mod Answers
pub mod Together
