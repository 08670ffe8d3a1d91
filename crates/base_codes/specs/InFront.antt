-- A list written into the front of a buffer: what the loops that write one keep.
use Rattle.std.specs.Prelude.{ℕ, ◌≡◌, List, ◌++◌, length, drop}

-- The list l was written into the front of d, which is now e; n is its length.
pub record InFront (d e : List ℕ) (n : ℕ) (l : List ℕ) : Type 0 where
  pub bytes : e ≡ l ++ drop (length l) d
  pub many : n ≡ length l
  pub same_length : length e ≡ length d
