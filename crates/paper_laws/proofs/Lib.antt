-- the search over any situations
pub mod search
-- places decide the language; reachable place sets
pub mod places
-- word equations: situations, their children and solutions
pub mod equations
-- plain questions
pub mod plain
-- good sheets and the whole outcome
pub mod sheets
-- what is promised of the whole
pub mod demands
-- a pattern's code, and the sheet that says a question
pub mod saying
