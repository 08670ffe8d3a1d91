pub mod Counts
pub mod HowOften
pub mod SidesBack
pub mod Strays
