-- `member_called`: what is computed of a call is what 02 says, however it ends.
pub mod Checks
pub mod Ends
pub mod Calls
-- `of_list`: the verdict for the members of a list, from the words of the root.
pub mod Judging
