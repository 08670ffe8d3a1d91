pub mod RecordChecks
pub mod FieldsStanding
