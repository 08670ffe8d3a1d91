pub mod StepsAnswering
pub mod OneStepsResult
