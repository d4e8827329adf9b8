-- Two plans merged under a new root (02: two books pooled): when the merged plan is CLEAR.
pub mod Collisions
