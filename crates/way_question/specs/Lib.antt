pub mod WaySpelt
