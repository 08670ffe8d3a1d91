pub mod Tails
pub mod Standings
pub mod Reached
pub mod Plain
