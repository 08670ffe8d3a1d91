pub mod KnownNumbers
