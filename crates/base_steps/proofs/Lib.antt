pub mod OneStepsAnswer
