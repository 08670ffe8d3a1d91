pub mod KnownSpelt
pub mod Promised
pub mod Table
pub mod Texts
