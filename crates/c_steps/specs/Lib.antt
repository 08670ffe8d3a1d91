pub mod StepsTelling
