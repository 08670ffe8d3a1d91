pub mod WaySteps
