-- the loops
pub mod Walked
-- what they tell of a question of the paper
pub mod PlacesTold
pub mod TwiceTold
pub mod BitsTold
