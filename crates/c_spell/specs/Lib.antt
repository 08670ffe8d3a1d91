pub mod SpellNumbers
