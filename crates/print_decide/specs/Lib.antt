pub mod DecisionPrinted
