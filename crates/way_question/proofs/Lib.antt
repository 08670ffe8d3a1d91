pub mod SpacedCoded
pub mod WayAgrees
pub mod StepsPut
pub mod WayMade
