-- what is answered of a question
pub mod Answered
-- what the answers tell
pub mod EngineNumbers
