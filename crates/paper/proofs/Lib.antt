-- what every layer uses
pub mod base
-- what a known sheet is, and what an edit of a definition meets: the checker computes them
pub mod known
