pub mod StepCoded
