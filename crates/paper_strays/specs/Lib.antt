pub mod Kept
pub mod Dropping
