-- Laws of rows of words, and of the words of a task.
pub mod Nots
pub mod Rows
pub mod Task
pub mod TaskWords
pub mod Musts
