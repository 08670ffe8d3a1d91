pub mod KnownSheet
pub mod KnownFew
