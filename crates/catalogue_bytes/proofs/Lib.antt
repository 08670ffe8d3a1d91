pub mod Gap
pub mod Within
