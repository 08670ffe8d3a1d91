pub mod TokenListing
pub mod Sides
