-- Attempts one after the other, and what they decide.
-- characters alike; few characters
pub mod Alike
pub mod Few
-- letters; one text for each field that stands twice
pub mod Letters
pub mod OneText
-- the whole outcome, and what is promised of it
pub mod Deciding
pub mod DecidePromised
