-- answer records read, and written
pub mod TextsSaid
-- the spaces of the hidden fields
pub mod Spaced
-- the step that the rule picks
pub mod NextStep
-- the way of texts, step by step
pub mod Spelling
-- spelling texts out
pub mod SpelledOut
-- a way of texts to the finish
pub mod SpeltTexts
-- what is promised
pub mod WayRight
-- and that it leaves one outcome
pub mod WayUnique
-- ways known by hand
pub mod KnownWays
