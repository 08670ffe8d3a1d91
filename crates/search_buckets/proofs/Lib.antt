-- the hash and the links
pub mod Hashed
pub mod Links
pub mod Newest
-- slots written and looked up
pub mod Stored
pub mod Kept
pub mod Chained
