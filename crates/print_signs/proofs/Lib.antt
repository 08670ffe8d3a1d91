pub mod CharacterByCharacter
pub mod EditionByBytes
