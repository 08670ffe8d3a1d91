pub mod LeftBehind
pub mod NextTests
