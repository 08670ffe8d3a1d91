-- the digits of a set, and its lowest place
pub mod Digits
-- adding pairs to the rows
pub mod Growing
pub mod Characters
-- going on until nothing is left to do
pub mod Closed
-- what is told of the pairs
pub mod WithSome
pub mod Crossing
