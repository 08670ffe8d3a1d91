pub mod Pairs
pub mod Runs
pub mod Meetings
pub mod Solved
pub mod Enough
pub mod EngineRight
pub mod EngineUnique
pub mod KnownEngine
