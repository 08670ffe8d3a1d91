-- characters alike
pub mod Alike
-- letters; one text for each field that stands twice
pub mod LettersRight
pub mod TextFits
pub mod TextsGood
-- every decision is as promised
pub mod Decided
-- known questions and sheets: the checker computes them
pub mod KnownChoices
pub mod KnownDecision
pub mod KnownLetters
