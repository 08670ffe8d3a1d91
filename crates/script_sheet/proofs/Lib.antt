pub mod Holding
pub mod FieldListing
pub mod ScriptWhole
pub mod ScriptAnswered
pub mod OneScript
