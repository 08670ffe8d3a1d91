pub mod AnewAnswered
pub mod OneSpelling
