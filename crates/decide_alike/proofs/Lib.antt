-- the loops
pub mod AlikeTurns
pub mod Marks
pub mod FromFn
pub mod InRange
-- from the codes and masks back to the definitions
pub mod First
pub mod LeastRead
pub mod Walked
pub mod FewRead
pub mod AlikeTies
