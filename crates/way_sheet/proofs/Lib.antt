pub mod WayAnswered
pub mod OneWay
