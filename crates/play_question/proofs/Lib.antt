pub mod Ended
pub mod PlayAgrees
