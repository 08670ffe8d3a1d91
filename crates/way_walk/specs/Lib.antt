pub mod SpellCoded
