pub mod KnownVersion
