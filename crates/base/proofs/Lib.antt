-- Laws of Booleans, of tests and of the bits of a word, of counts, of answers and lent memory, of tables of zeros, of
-- lists made one piece after another or by a function, of dictionary order.
pub mod Booleans
pub mod Tests
pub mod Bits
pub mod Says
pub mod Words
pub mod Count
pub mod Tally
pub mod First
pub mod Overlay
pub mod Zeros
pub mod Each
pub mod FromFn
pub mod Dictionary
