pub mod FullAscii
pub mod Spell
