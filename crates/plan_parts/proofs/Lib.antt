-- The fields of accepted bytes obey the rules (`valid_of`); the parts of two plans one after another (`byte_first`,
-- `byte_second`); the bytes of fields that obey the rules (`byte_small`).
pub mod Read
pub mod Joined
pub mod Small
