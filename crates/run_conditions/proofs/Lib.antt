-- What is tested of one condition (`broken_turn`); the flags after the literals of one event (`made_flag`) and of the
-- tasks of a list (`made_cons`, `left_flag`); and that the searches of 21, 22 and 26 are the tests of the theory.
pub mod Conditions
pub mod Literals
pub mod Signs
pub mod OneByOne
pub mod Refusals
