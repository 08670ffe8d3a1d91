-- lists
pub mod Compared
pub mod Parts
pub mod Rows
-- the slot of a situation
pub mod Sets
pub mod Keys
pub mod Situations
pub mod Seen
