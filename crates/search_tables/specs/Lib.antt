pub mod Tables
pub mod Cut
