-- Walks over a list from an index on: the masks of characters, the tokens of a side. Each has a law for the end, and the tokens one for one more. And a
-- test of a list's elements. Follows from the definitions.
use Prim.Native.Nat.{ℕ, ◌+◌, ◌≤◌, ◌<◌}
use native.Mathlib.Numerals.{add-one}
use native.Mathlib.Omega.{arith}
use mathlib.Core.Path.{◌≡◌, refl, ap}
use mathlib.Core.Bool.{Bool, true, false, ◌||◌}
use mathlib.Core.List.{List, [], ◌∷◌}
use lib.Dec.{eqb}
use lib.ListN.{length, get_or, take, drop, drop_of_length-le, length-take}
use lib.Seq.{drop-cons}
use Rattle.std.specs.List.{list_any}
use Rattle.paper.specs.Lists.{any}
use Rattle.base_codes.specs.Inner.{no_token, tokens}
use Rattle.plain_count.specs.StandingsCoded.{taken_too, token_adds, standings_coded}

-- some element passes, told either way
pub any_listed : (p : ℕ → Bool) (l : List ℕ) → list_any p l ≡ any p l
any_listed p [] = refl
any_listed p (x ∷ l) = ap (λ (b : Bool). p x || b) (any_listed p l)

module _ (m : ℕ) (taking : List ℕ) (n c : ℕ) where
  pub taken_end : n ≤ c → taken_too m (drop c (take n taking)) ≡ m
  taken_end h =
      let all : length (take n taking) ≤ c = omega (arith, length-take n taking) in
      rw (drop_of_length-le (take n taking) all)

module _ (places side : List ℕ) (i : ℕ) where
  pub side_ends : i < length side → eqb (get_or side i 0) no_token ≡ true → standings_coded places (tokens (drop i side)) ≡ 3
  side_ends h e = rw (drop-cons side i 0 h, e)

  pub side_next : i < length side → eqb (get_or side i 0) no_token ≡ false
      → standings_coded places (tokens (drop i side)) ≡ token_adds places (get_or side i 0) + standings_coded places (tokens (drop (i + 1) side))
  side_next h e = rw (add-one, drop-cons side i 0 h, e)

  pub side_end : length side ≤ i → standings_coded places (tokens (drop i side)) ≡ 3
  side_end h = rw (drop_of_length-le side h)
