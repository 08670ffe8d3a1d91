-- the same two editions
pub mod Same
-- the code of a byte
pub mod Codes
