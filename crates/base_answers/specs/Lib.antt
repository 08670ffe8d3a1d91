pub mod Faults
pub mod AnswerNumbers
