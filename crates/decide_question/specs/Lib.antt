-- one of the attempts behind the first, and what it gives
pub mod Attempt
-- the attempts one after the other
pub mod Settling
-- the attempts by their numbers
pub mod Order
