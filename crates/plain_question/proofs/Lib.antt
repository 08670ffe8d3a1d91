pub mod Entered
pub mod ByRows
pub mod Tokens
pub mod Standings
