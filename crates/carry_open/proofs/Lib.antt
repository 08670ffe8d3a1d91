pub mod CarryAnswered
pub mod OneCarrying
