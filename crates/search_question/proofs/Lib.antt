pub mod Searched
pub mod Uncut
