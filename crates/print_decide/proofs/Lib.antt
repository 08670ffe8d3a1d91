pub mod DecisionLines
