-- Bytes put into a lent buffer from a place on, and the place behind them. What stands past the buffer's end is only counted.
use Rattle.std.specs.Prelude.{ℕ, suc, ◌≡◌, cond, List, [], ◌∷◌, ltb, set}

-- no place is behind this one
abbrev pub last_place : ℕ
last_place = 18446744073709551615

unfoldable pub next_place : ℕ → ℕ
next_place at = cond (ltb at last_place) (suc at) at

abbrev pub place_behind : ℕ → List ℕ → ℕ
place_behind at [] = at
place_behind at (b ∷ l) = place_behind (next_place at) l

abbrev pub put_from : List ℕ → ℕ → List ℕ → List ℕ
put_from d at [] = d
put_from d at (b ∷ l) = put_from (set d at b) (next_place at) l

-- the bytes l were put into d from `at` on, which is now e; `end` is the place behind them
pub record Counted (d e : List ℕ) (at end : ℕ) (l : List ℕ) : Type 0 where
  pub bytes : e ≡ put_from d at l
  pub behind : end ≡ place_behind at l
