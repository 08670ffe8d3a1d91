pub mod Over
