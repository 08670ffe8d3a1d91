-- masks of tests, tables of them
pub mod MaskOf
pub mod Filling
-- from masks back to place sets
pub mod Masks
-- the followers of a set
pub mod Gathered
pub mod ByNumber
