pub mod WalkCoded
