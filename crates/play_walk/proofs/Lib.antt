pub mod Walking
pub mod Texts
pub mod WalkAgrees
