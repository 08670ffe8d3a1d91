pub mod TrimTurns
pub mod FirstSets
-- what callers go by
pub mod Short
