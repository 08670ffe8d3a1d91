pub mod PrintedCharacter
