pub mod Records
pub mod FromSaid
