pub mod SameEngine
pub mod SameDecision
pub mod Dropped
pub mod DropPromised
pub mod KnownDropped
