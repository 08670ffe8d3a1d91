pub mod Worked
pub mod ReadPart
pub mod Lent
