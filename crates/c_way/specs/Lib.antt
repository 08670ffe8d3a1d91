pub mod WayTold
