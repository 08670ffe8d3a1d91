pub mod Reached
pub mod Entered
