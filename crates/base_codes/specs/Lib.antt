-- tokens, sides and steps
pub mod Inner
-- situations
pub mod Coded
-- a list in the front of a buffer
pub mod InFront
