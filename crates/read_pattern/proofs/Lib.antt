-- sets joined to tables
pub mod Adding
pub mod Joining
-- reading a pattern's bytes
pub mod Behind
pub mod Surplus
pub mod ReadParts
pub mod PatternJudged
pub mod LastBytes
