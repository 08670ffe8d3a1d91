-- The steps on paper (request K14): their records, the search that writes them, the player that makes them again, and what is promised of both.
pub mod StepRecords
pub mod StepsOutcome
pub mod Player
pub mod PlayPromised
pub mod StepsPromised
