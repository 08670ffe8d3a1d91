-- weights in one number
pub mod Packing
-- the common divisor
pub mod Divisors
-- a range's characters
pub mod Ranges
-- both sides' weights
pub mod BothWeighed
-- characters that were tried
pub mod Tried
-- what stands in a side
pub mod InSides
-- the weights of a pattern, from its codes
pub mod Sizes
pub mod Walked
pub mod AtMost
pub mod PatternRead
-- letters, by inner codes
pub mod LettersTold
-- a pattern that was read
pub mod Standing
