-- situations by value
pub mod ChildTurns
pub mod ChildJudged
-- what callers go by
pub mod Short
-- situations by inner codes stand for the paper's
pub mod CodedSides
pub mod CodedSets
pub mod CodedChildren
pub mod CodedQuestion
pub mod KeptCodable
pub mod Ways
