-- the search over slots, and how it stands for the paper's
pub mod RunNumbers
pub mod Once
pub mod TextBack
pub mod Simulated
-- how it ends
pub mod WaySpelt
pub mod Concluding
pub mod Ending
pub mod StepsConcluding
pub mod RunIsSearch
pub mod SameTables
pub mod StepsRunIsSearch
