pub mod FaultNumbers
pub mod Same
