-- Place sets as masks (document 01, "How to write each place"): a place set is a mask of 64 bits, since "63 leaves .. with the start make 64
-- places" (request K7); "following places are gathered by or and shifts".
--
-- Masks are sums of powers of two, so that these definitions compute. The laws that lead from masks back to place sets are in
-- proofs/Masks.antt.
use Rattle.std.specs.Prelude.{ℕ, suc, ◌+◌, ◌/◌, ◌%◌, ◌^◌, Bool, true, cond, ◌&&◌, List, [], ◌∷◌, map, leb, eqb, get_or}
use Rattle.paper.specs.Lists.{upto, any, keep}
use Rattle.paper.specs.Numbers.{most_characters, most_leaves}
use Rattle.paper.specs.Pattern.{Held, some_text, pattern}
use Rattle.paper.specs.Places.{leaf_takes, follows, ends_at, PlaceSet}

-- "63 leaves, which with the start make 64 places"
abbrev pub places : ℕ
places = suc most_leaves

-- the mask of a place set: one bit for each place
abbrev pub mask : PlaceSet → ℕ
mask [] = 0
mask (i ∷ s) = 2 ^ i + mask s

-- the mask of the places that pass a test
unfoldable pub mask_of : (ℕ → Bool) → ℕ
mask_of t = mask (keep t (upto places))

-- does the place i stand in the set with the mask m?
unfoldable pub in_mask : ℕ → ℕ → Bool
in_mask m i = eqb (m / 2 ^ i % 2) 1

-- f 0, f 1, .. : n numbers
unfoldable pub table : (ℕ → ℕ) → ℕ → List ℕ
table f n = map f (upto n)

-- the masks of the tests t 0, t 1, .. : n numbers
abbrev pub masks : (ℕ → ℕ → Bool) → ℕ → List ℕ
masks t n = table (λ (i : ℕ). mask_of (λ (q : ℕ). t i q)) n

-- May the place q come next after the place i? Of an open field the place behind its start comes after every place (request K5).
abbrev pub comes_next : Held → ℕ → ℕ → Bool
comes_next some_text i q = eqb q 1
comes_next (pattern p) i q = follows p i q

-- Does the place q take the character c? Of an open field every place does.
abbrev pub takes_at : Held → ℕ → ℕ → Bool
takes_at some_text q c = true
takes_at (pattern p) q c = leaf_takes p 1 q c

-- "For every field and every place, the set of places that may follow is worked out once from the pattern."
unfoldable pub follow_masks : Held → List ℕ
follow_masks h = masks (λ (i q : ℕ). comes_next h i q) places

-- for every character, the set of places that take it
unfoldable pub taking_mask : Held → ℕ → ℕ
taking_mask h c = mask_of (λ (q : ℕ). takes_at h q c)

-- There is room for the characters of Full ASCII (request K10).
unfoldable pub taking_masks : Held → List ℕ
taking_masks h = table (λ (c : ℕ). taking_mask h c) most_characters

-- the places that may be the last one of a text
unfoldable pub last_mask : Held → ℕ
last_mask h = mask_of (λ (i : ℕ). ends_at h i)

-- The places that may follow some place of the set with the mask m, by any list of masks. (The set after c is what of these takes c.)
unfoldable pub followers_of : List ℕ → ℕ → ℕ
followers_of masks m = mask_of (λ (q : ℕ). any (λ (i : ℕ). in_mask m i && in_mask (get_or masks i 0) q) (upto places))

-- no more characters than a table has room for
unfoldable pub within : ℕ → ℕ
within n = cond (leb n most_characters) n most_characters
