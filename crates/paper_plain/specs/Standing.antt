-- Standings (request K9): "A standing is how far one side has been read, together with one single place of the field in front." How many a side
-- has, what a pair of them leads to, and when it is finished. Over any number of characters, and whatever the fields may hold. A field that stands
-- twice is read at each standing for itself: each standing apart.
use Rattle.std.specs.Prelude.{ℕ, suc, ◌+◌, ◌*◌, Bool, true, false, ◌&&◌, List, [], ◌∷◌, ◌++◌, map, eqb}
use Rattle.paper.specs.Lists.{upto, only, keep, each, same_by}
use Rattle.paper.specs.Pattern.{Held, some_text, pattern}
use Rattle.paper.specs.Places.{leaves, leaf_takes, follows, ends_at}
use Rattle.paper.specs.Search.{Child, child, State, search}
use Rattle.paper.specs.Equation.{chr, fld, Side}
use Rattle.paper.specs.Situation.{Move, strike_left, strike_right, put, same_token}

-- "its leaves and the start, or two for a field without a pattern"
abbrev pub places_of : Held → ℕ
places_of some_text = 2
places_of (pattern p) = suc (leaves p)

-- does the place q come after the place i by reading the character c?
abbrev pub comes_by : Held → ℕ → ℕ → ℕ → Bool
comes_by some_text i c q = eqb q 1
comes_by (pattern p) i c q = follows p i q && leaf_takes p 1 q c

-- how far a side is read: what of it is not read yet. Where no field is in front the place is 0.
pub record Standing : Type 0 where
  pub rest : Side
  pub place : ℕ

-- the standing at which what is not read yet begins: a field in front is at its start
abbrev pub begins : Side → Standing
begins side = record { rest = side; place = 0 }

pub record Pair : Type 0 where
  pub left : Standing
  pub right : Standing

module _ (held : ℕ → Held) where
  -- "A side has one standing for its end, one for each character and, for each field, one for each of its places"
  abbrev pub standings : Side → ℕ
  standings [] = 1
  standings (chr a ∷ side) = 1 + standings side
  standings (fld f ∷ side) = places_of (held f) + standings side

  -- the field in front is left, if its place may be the last one of a text
  abbrev pub left_at : Side → ℕ → List Standing
  left_at [] i = []
  left_at (chr a ∷ side) i = []
  left_at (fld f ∷ side) i = only (ends_at (held f) i) (begins side)

  -- the character c is read: a character in front must be c, and of a field in front some place that takes c comes next
  abbrev pub read_at : ℕ → Side → ℕ → List Standing
  read_at c [] i = []
  read_at c (chr a ∷ side) i = only (eqb a c) (begins side)
  read_at c (fld f ∷ side) i =
      map (λ (q : ℕ). record { rest = fld f ∷ side; place = q }) (keep (comes_by (held f) i c) (upto (places_of (held f))))

  -- a pair leads to another: a field in front is left, or both sides read the same character
  unfoldable pub next_pairs : ℕ → Pair → List (Child Pair Move)
  next_pairs characters x =
      map (λ (s : Standing). child strike_left (record { left = s; right = x.right })) (left_at x.left.rest x.left.place)
      ++ (map (λ (s : Standing). child strike_right (record { left = x.left; right = s })) (left_at x.right.rest x.right.place)
      ++ each
      (λ (c : ℕ).
      each
      (λ (s : Standing). map (λ (t : Standing). child (put c) (record { left = s; right = t })) (read_at c x.right.rest x.right.place))
      (read_at c x.left.rest x.left.place))
      (upto characters))

abbrev pub is_read : Side → Bool
is_read [] = true
is_read (t ∷ side) = false

-- a pair is finished if both sides are read to their end
abbrev pub finished_pair : Pair → Bool
finished_pair x = is_read x.left.rest && is_read x.right.rest

abbrev pub same_standing : Standing → Standing → Bool
same_standing s t = same_by same_token s.rest t.rest && eqb s.place t.place

abbrev pub same_pair : Pair → Pair → Bool
same_pair x y = same_standing x.left y.left && same_standing x.right y.right

-- "one bit for each pair of a left and a right standing"
abbrev pub pairs_of : (ℕ → Held) → Side → Side → ℕ
pairs_of held l r = standings held l * standings held r

-- The pairs that the first one leads to, gone through by the search of 01, with room for every pair of a left and a right standing. Sides are not
-- trimmed.
unfoldable pub pairs_searched : (ℕ → Held) → ℕ → Side → Side → State Pair Move
pairs_searched held characters l r =
    search same_pair finished_pair (next_pairs held characters) (pairs_of held l r) (record { left = begins l; right = begins r })
