pub mod PlayAnswered
pub mod OnePlay
