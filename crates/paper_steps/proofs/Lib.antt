-- a step's record in front of bytes
pub mod RecordsRead
-- a step and 01's children
pub mod StepChildren
-- playing, record by record
pub mod Playing
-- what is promised of the player
pub mod PlayRight
-- and that it leaves one outcome
pub mod PlayUnique
-- what is promised of the search that writes its way
pub mod StepsRight
-- and that it leaves one outcome
pub mod StepsUnique
-- what stands in a larger room
pub mod StepsStand
-- ways known by hand
pub mod KnownSteps
