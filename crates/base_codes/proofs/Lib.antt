pub mod Tokens
pub mod Denoted
pub mod InFront
