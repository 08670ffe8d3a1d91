pub mod StraysDropped
