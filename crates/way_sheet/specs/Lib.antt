pub mod WayNumbers
