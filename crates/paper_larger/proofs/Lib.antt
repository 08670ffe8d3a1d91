-- the search of a question
pub mod SearchedLarger
-- a sheet's outcome
pub mod OutcomeStands
-- a catalogue, by any way to ask a pair that keeps its 1
pub mod CatalogueLarger
-- so by 01's search
pub mod CatalogueStands
-- what is decided of a sheet
pub mod DecisionLarger
-- and of a catalogue's pairs
pub mod DecidedPairsStand
