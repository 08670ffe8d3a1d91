pub mod Ranges
pub mod Spelling
pub mod Patterns
pub mod CodesAt
