pub mod Standing
pub mod Meeting
pub mod Run
pub mod Apart
pub mod Engine
pub mod EnginePromised
