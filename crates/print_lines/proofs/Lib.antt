pub mod Decimal
pub mod Putting
pub mod CharacterPut
pub mod Walked
pub mod Making
