pub mod Masks
pub mod WorkedOut
