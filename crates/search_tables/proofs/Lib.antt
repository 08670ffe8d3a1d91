pub mod Behind
pub mod Listed
pub mod Filled
pub mod CutOver
pub mod CutSteps
