pub mod NextCoded
