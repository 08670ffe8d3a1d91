-- the search over slots, and in the lent buffer
pub mod Run
pub mod Lent
-- the answer
pub mod Way
pub mod Ended
pub mod StepsEnded
pub mod Telling
