-- A value is read back as the parts that it is made of (`parse_at`, `value_back`).
pub mod Values
