pub mod Bodies
pub mod Asked
pub mod Standings
pub mod StraysCoded
