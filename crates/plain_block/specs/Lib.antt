pub mod Met
pub mod Rows
