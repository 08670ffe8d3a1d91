pub mod Answering
pub mod OneResult
