pub mod DecisionPromised
pub mod OneDecision
