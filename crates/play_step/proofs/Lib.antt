pub mod StepShort
pub mod StepAgrees
