pub mod PairTold
pub mod InRoom
