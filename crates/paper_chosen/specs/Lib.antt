-- The search of a question over some of its characters alone.
pub mod Chosen
