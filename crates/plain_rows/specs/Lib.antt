pub mod Fronts
pub mod Rows
