-- the texts, spelt back
pub mod Text
-- the records and the answers
pub mod Records
pub mod FieldsStanding
pub mod Answers
