pub mod OneSpelling
pub mod SpellAnswered
pub mod SpeltWalk
