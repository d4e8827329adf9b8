-- Sets of nodes: those of a list, those marked in a table (`marked_next`). Lists that strictly rise (`rising_answer`).
pub mod Sets
pub mod Lists
