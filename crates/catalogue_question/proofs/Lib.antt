pub mod Filled
pub mod PairAsked
