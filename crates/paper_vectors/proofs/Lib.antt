-- known sheets
pub mod Known
pub mod KnownEditions
pub mod KnownBounds
pub mod KnownLengths
pub mod KnownPrinted
-- known decisions
pub mod KnownDecisions
-- known calls of a catalogue
pub mod KnownCatalogue
pub mod KnownRechecks
