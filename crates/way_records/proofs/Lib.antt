pub mod Reading
pub mod LabelLength
