-- Making literals true leaves bytes (`made_small`); what lists of calls keep (`called_kept`); that bytes are fixed by
-- what they show (`one_shown`); that lists return what 01 works out (`list_follows`); and demand 3 over bytes
-- (`demand3`).
pub mod Bytes
pub mod Kept
pub mod Followed
pub mod Demand3
