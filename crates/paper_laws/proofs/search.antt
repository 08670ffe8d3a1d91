pub mod Grown
pub mod Ended
pub mod Ends
pub mod Room
pub mod Searched
pub mod Mapped
