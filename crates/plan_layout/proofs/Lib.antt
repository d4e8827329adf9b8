-- Bytes laid out from fields have these fields (`Laid-in`, `laid_bytes`), and are accepted if the fields obey the rules
-- (`accepted`); no other bytes have these fields (`laid_byte`). Names by their characters (`same_four`), the bytes of
-- the start flags by the flags (`start_bytes`).
pub mod Parts
pub mod Sections
pub mod Valid
pub mod Accepted
pub mod Exact
pub mod Names
pub mod Starts
