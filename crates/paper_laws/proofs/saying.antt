pub mod Code
pub mod Continued
pub mod LeafPlace
pub mod SaidParts
pub mod Saying
pub mod Sayable
