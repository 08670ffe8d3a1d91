-- slots looked up by buckets
pub mod Buckets
