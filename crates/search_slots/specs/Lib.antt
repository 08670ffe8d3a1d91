-- numbers in bytes
pub mod LowFirst
-- the slot of a situation
pub mod Slots
