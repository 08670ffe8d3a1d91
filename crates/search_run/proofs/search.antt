pub mod Offers
pub mod Puts
pub mod Turns
pub mod Children
pub mod Keys
