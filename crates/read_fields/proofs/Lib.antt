pub mod Verdicts
pub mod Reached
pub mod FieldsStruct
pub mod PatternsStanding
