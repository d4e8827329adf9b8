-- The table of a pass, turn by turn (`asks`, `set_holds`); what a pass backwards finds (`pass_finds`); and that the
-- passes find causes 8, 11 and 12 (`children`, `signs`, `posts`).
pub mod Table
pub mod Backward
pub mod Found
