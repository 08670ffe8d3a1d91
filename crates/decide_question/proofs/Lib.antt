pub mod AnyQuestion
pub mod SettlingSteps
pub mod Concluding
pub mod SettledTold
