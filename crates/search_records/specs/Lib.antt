-- the answer of a clash
pub mod Records
