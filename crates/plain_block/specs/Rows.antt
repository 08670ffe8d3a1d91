-- What the private functions of `cross` promise. Pairs of places stand in rows: the row of a left place has the right places that it is met with. Some
-- left places are still to be gone on from, since their rows grew.
--   Grows P rows todo after left    the pairs of P are added to the rows, which are `after` then; each place whose row grew is to be gone on from
--   Going l r lo hi m n rows todo met
--                                   the rows hold pairs that are met, and all that follow from those of a place that is not to be gone on from
--   GoneOn .. rows todo after left met
--                                   going on keeps that
use Rattle.std.specs.Prelude.{ℕ, ◌+◌, ◌*◌, ◌-◌, ◌^◌, ◌≤◌, ◌<◌, ◌≡◌, true, false, List, [], ◌∷◌, ◌⊎◌, length, get_or}
use Rattle.std.specs.Int.Bits.{bit_and}
use Rattle.paper.specs.Numbers.{most_characters}
use Rattle.base_places.specs.Masks.{places, in_mask}
use Rattle.base_places.specs.declared.PlaceTables.{PlaceTables}
use Rattle.plain_block.specs.Met.{comes_by, Met, tables}

-- the pair of the left place i and the right place q stands in the rows
abbrev pub In : List ℕ → ℕ → ℕ → Type 0
In rows i q = in_mask (get_or rows i 0) q ≡ true

-- How far the rows may still grow; and what falls with each turn, since a place comes back only where a row grew.
unfoldable pub free : List ℕ → ℕ
free [] = 0
free (row ∷ rows) = (2 ^ places - row) + free rows

unfoldable pub weight : List ℕ → ℕ → ℕ
weight rows todo = free rows * 2 ^ places + todo

pub record Grows (P : ℕ → ℕ → Type 0) (rows : List ℕ) (todo : ℕ) (after : List ℕ) (left : ℕ) : Type 0 where
  pub long : length after ≡ places
  pub small : left < 2 ^ places
  pub kept : (i q : ℕ) → In rows i q → In after i q
  pub sound : (i q : ℕ) → In after i q → In rows i q ⊎ P i q
  pub complete : (i q : ℕ) → P i q → In after i q
  pub idle : (i : ℕ) → in_mask left i ≡ false → (in_mask todo i ≡ false) × (get_or after i 0 ≡ get_or rows i 0)
  pub falls : weight after left ≤ weight rows todo

-- one left place with the right places of a set
abbrev pub One : ℕ → ℕ → ℕ → ℕ → Type 0
One j more i q = (i ≡ j) × (in_mask more q ≡ true)

-- the left places of a set with the right places of another
abbrev pub Each : ℕ → ℕ → ℕ → ℕ → Type 0
Each set more i q = (in_mask set i ≡ true) × (in_mask more q ≡ true)

-- what of two sets takes the same character
pub record Taken (lefts rights : ℕ) (left-taking right-taking : List ℕ) (lo hi : ℕ) (j s : ℕ) : Type 0 where
  pub by : ℕ
  pub from : lo ≤ by
  pub below : by < hi
  pub there : by < most_characters
  pub taken : Each (bit_and lefts (get_or left-taking by 0)) (bit_and rights (get_or right-taking by 0)) j s

-- what comes after the pairs of the left place i, whatever the last places are
pub record Behind (left-follow left-taking right-follow right-taking : List ℕ) (lo hi : ℕ) (rows : List ℕ) (i : ℕ) (j s : ℕ) : Type 0 where
  pub at : ℕ
  pub by : ℕ
  pub stands : In rows i at
  pub from : lo ≤ by
  pub below : by < hi
  pub there : by < most_characters
  pub left : comes_by (tables left-follow left-taking 0) i by j ≡ true
  pub right : comes_by (tables right-follow right-taking 0) at by s ≡ true

pub record Going (l r : PlaceTables) (lo hi m n : ℕ) (rows : List ℕ) (todo met : ℕ) : Type 0 where
  pub sound : (i q : ℕ) → In rows i q → Met l r lo hi m n i q
  pub left_came : (q : ℕ) → in_mask m q ≡ true → In rows 0 q
  pub right_came : (i : ℕ) → in_mask n i ≡ true → In rows i 0
  pub closed : (i j s : ℕ) → in_mask todo i ≡ false → Behind l.follow l.taking r.follow r.taking lo hi rows i j s → In rows j s
  pub none : (i : ℕ) → in_mask met i ≡ false → get_or rows i 0 ≡ 0

-- what is known of the rows is known of them after, whatever the last places are and wherever the tokens came in front
abbrev pub GoneOn : List ℕ → List ℕ → List ℕ → List ℕ → ℕ → ℕ → List ℕ → ℕ → List ℕ → ℕ → ℕ → Type 0
GoneOn left-follow left-taking right-follow right-taking lo hi rows todo after left met =
    (a b m n : ℕ) → Going (tables left-follow left-taking a) (tables right-follow right-taking b) lo hi m n rows todo todo
    → Going (tables left-follow left-taking a) (tables right-follow right-taking b) lo hi m n after left met
