-- what a pair asks
pub mod PairCoded
-- how it is asked, and what it is answered
pub mod AskedBy
