pub mod TextLines
pub mod ClashProgram
pub mod DecideProgram
pub mod ToldBack
