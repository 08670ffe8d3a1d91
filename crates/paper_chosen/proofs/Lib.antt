-- the texts of a way, whichever characters are taken
pub mod Likewise
-- the search over some characters alone
pub mod Over
-- a known question: the checker computes it
pub mod KnownChosen
