-- What the private functions that read a pattern's bytes promise: the step between the code and the definitions of `Masks` (`base_places`).
--   Reads p starts rest o r
--                         r tells of the pattern p, whose first leaf is the place o and behind which the bytes `rest` are left
--   Works p o w v         the lent tables w have become v: what follows the leaves of p and what these take is joined to them
use Rattle.std.specs.Prelude.{ℕ, ◌+◌, ◌≤◌, ◌≡◌, Bool, ◌||◌, List, [], ◌∷◌, ◌++◌, length, get_or, replicate, Result, Ok, Err}
use Rattle.std.specs.Int.Bits.{bit_or}
use Rattle.paper.specs.Numbers.{most_characters}
use Rattle.paper.specs.Pattern.{range, Pattern, leaf, many}
use Rattle.paper.specs.Places.{leaves, takes_empty, may_be_first, may_be_last, may_follow, leaf_takes}
use Rattle.paper.specs.Written.{Part, no_pattern, part, read_part}
use Rattle.base_places.specs.Masks.{places, mask_of, table, masks}
use Rattle.read_pattern.specs.declared.reader.ReadPart.{ReadPart}

-- the sets of a table and further ones together, at i
abbrev pub or_at : List ℕ → (ℕ → ℕ) → ℕ → ℕ
or_at sets more i = bit_or (get_or sets i 0) (more i)

-- the sets `more 0`, `more 1`, .. are added to those of a table of n. (That an array behind a reference has its n elements is known by its type,
-- but it is no fact about the list that stands for it here.)
abbrev pub Adds : ℕ → (ℕ → ℕ) → List ℕ → List ℕ → Type 0
Adds n more d e = length d ≡ n → e ≡ table (or_at d more) n

-- how many bytes are left from the leaf on that would be the place `places`, where the first leaf is the place o; 0 where there is none
abbrev pub surplus_of : List ℕ → ℕ → ℕ
surplus_of starts o = get_or (replicate o 0 ++ starts) places 0

pub record Reads (p : Pattern) (starts rest : List ℕ) (o : ℕ) (r : ReadPart) : Type 0 where
  pub left : r.left ≡ length rest
  pub each : length starts ≡ leaves p
  pub next : r.next ≡ o + leaves p
  pub surplus : r.surplus ≡ surplus_of starts o
  pub empty : r.empty ≡ takes_empty p
  pub first : r.first ≡ mask_of (λ (q : ℕ). may_be_first p o q)
  pub last : r.last ≡ mask_of (λ (q : ℕ). may_be_last p o q)

-- the lent tables: for every place what may follow, for every character what takes it
pub record Working : Type 0 where
  pub follow : List ℕ
  pub taking : List ℕ

abbrev pub working : List ℕ → List ℕ → Working
working follow taking = record { follow = follow; taking = taking }

-- the masks of the tests t are joined to those of d, whatever tests these are of
pub record Joins (t : ℕ → ℕ → Bool) (n : ℕ) (d e : List ℕ) : Type 0 where
  pub joined : (u : ℕ → ℕ → Bool) → d ≡ masks u n → e ≡ masks (λ (i q : ℕ). u i q || t i q) n

pub record Works (p : Pattern) (o : ℕ) (w v : Working) : Type 0 where
  pub follow : Joins (λ (i q : ℕ). may_follow p o i q) places w.follow v.follow
  pub taking : Joins (λ (c q : ℕ). leaf_takes p o q c) most_characters w.taking v.taking

-- what reading gives for the pattern at the front of the bytes, or for none: how many bytes are left from the one at fault on
abbrev pub ReadAs : Part → ℕ → Working → Working → Result ReadPart ℕ → Type 0
ReadAs (no_pattern left) o w v r = r ≡ Err left
ReadAs (part p starts rest) o w v (Ok r) = Reads p starts rest o r × Works p o w v
ReadAs (part p starts rest) o w v (Err left) = ⊥

-- r is the reading of the bytes s, whatever more than enough turns are taken
abbrev pub ReadingOf : List ℕ → ℕ → Working → Working → Result ReadPart ℕ → Type 0
ReadingOf s o w v r = (n : ℕ) → length s ≤ n → ReadAs (read_part n s) o w v r

-- r is the reading of a pattern that has no part, with so many bytes left behind it
abbrev pub Single : Pattern → List ℕ → ℕ → ℕ → ReadPart → Type 0
Single p starts left o r = (rest : List ℕ) → length rest ≡ left → Reads p starts rest o r

-- r is the reading of a leaf, and what it takes is joined to the table
pub record LeafRead (lo hi first left o : ℕ) (taking after : List ℕ) (r : ReadPart) : Type 0 where
  pub reads : Single (leaf (range lo hi)) (first ∷ []) left o r
  pub takes : Joins (λ (c q : ℕ). leaf_takes (leaf (range lo hi)) o q c) most_characters taking after

-- r is the reading of two patterns under an operator, of which a and b are the readings
abbrev pub Joined : (Pattern → Pattern → Pattern) → ReadPart → ReadPart → ReadPart → Type 0
Joined op a b r =
    (p q : Pattern) (starts s more rest : List ℕ) (o : ℕ) → Reads p starts s o a → Reads q more rest (o + leaves p) b
    → Reads (op p q) (starts ++ more) rest o r

-- r is the reading of a pattern any number of times, of which a is the reading
abbrev pub Repeated : ReadPart → ReadPart → Type 0
Repeated a r = (p : Pattern) (starts rest : List ℕ) (o : ℕ) → Reads p starts rest o a → Reads (many p) starts rest o r
