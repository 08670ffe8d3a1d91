pub mod PairBytes
pub mod PairListing
pub mod Rechecking
pub mod OneRecheck
