pub mod Going
pub mod Entering
pub mod OneAddition
