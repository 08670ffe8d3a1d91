pub mod BackAnswered
pub mod BackWalk
