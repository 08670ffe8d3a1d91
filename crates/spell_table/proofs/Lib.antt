pub mod CharacterPut
pub mod Looking
