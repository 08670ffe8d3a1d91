pub mod Bodies
pub mod Walk
