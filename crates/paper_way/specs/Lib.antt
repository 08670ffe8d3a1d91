-- A way for every clash: the texts of a clash read from their answer records, the steps by document 01's rules that spell them, and what is promised.
pub mod TextRecords
pub mod TextSteps
pub mod WayOutcome
pub mod WayPromised
