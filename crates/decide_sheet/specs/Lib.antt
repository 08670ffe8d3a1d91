-- what deciding tells
pub mod Decision
