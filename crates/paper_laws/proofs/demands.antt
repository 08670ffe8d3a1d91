pub mod Demand1
pub mod Demand2
pub mod ShutOut
pub mod Demand3
