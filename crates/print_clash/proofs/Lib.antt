pub mod Making
pub mod ClashLines
