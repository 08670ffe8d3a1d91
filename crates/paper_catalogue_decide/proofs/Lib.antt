-- a pair that is decided
pub mod PairDecided
-- adding and checking again
pub mod CatalogueDecides
-- known pairs and calls: the checker computes them
pub mod KnownDecided
