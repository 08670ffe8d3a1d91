pub mod TextsCoded
pub mod SpellAgrees
pub mod Spelt
