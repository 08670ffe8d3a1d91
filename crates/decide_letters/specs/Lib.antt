-- the weights of a pattern, from its codes
pub mod PatternStack
-- what stands in a side
pub mod SideCoded
-- letters, by inner codes
pub mod LettersCoded
-- the same, of the struct of the code
pub mod Uneven
