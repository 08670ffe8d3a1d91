pub mod KnownWritten
pub mod LaidRead
pub mod LaidStrays
pub mod LaidSaying
pub mod WritePromised
pub mod NoByte
pub mod LaidShort
