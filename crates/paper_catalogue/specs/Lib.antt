-- The catalogue of request K1 as definitions: adding and withdrawing a rule, checking again (request K3), and what is promised of any calls.
-- how a pair is asked
pub mod PairAsking
pub mod Catalogue
pub mod Recheck
pub mod Calls
