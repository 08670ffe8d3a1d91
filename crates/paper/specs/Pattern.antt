-- Patterns as trees and their language, by the usual rules of regular expressions (document 01, "The question sheet").
-- A text is a list of characters, a character its value.
use Rattle.std.specs.Prelude.{ℕ, ◌<◌, ◌≡◌, Bool, true, ◌&&◌, List, [], ◌∷◌, ◌++◌, leb, eqb, length}

-- "that character (a leaf)"; "one character with lo ≤ value ≤ hi (a leaf)"
pub data Leaf : Type 0 where
  char : ℕ → Leaf
  range : ℕ → ℕ → Leaf

abbrev pub takes : Leaf → ℕ → Bool
takes (char a) c = eqb a c
takes (range lo hi) c = leb lo c && leb c hi

pub data Pattern : Type 0 where
  leaf : Leaf → Pattern
  -- "the empty text"
  empty : Pattern
  -- "A then B"
  then : Pattern → Pattern → Pattern
  -- "A or B, each again a pattern"
  either : Pattern → Pattern → Pattern
  -- "A any number of times, none included"
  many : Pattern → Pattern

-- the language: `Fits p w` says that the text w fits the pattern p
pub data Fits : Pattern → List ℕ → Type 0 where
  one : {l : Leaf} {c : ℕ} → takes l c ≡ true → Fits (leaf l) (c ∷ [])
  nothing : Fits empty []
  both : {a b : Pattern} {u v w : List ℕ} → w ≡ u ++ v → Fits a u → Fits b v → Fits (then a b) w
  first : {a b : Pattern} {w : List ℕ} → Fits a w → Fits (either a b) w
  second : {a b : Pattern} {w : List ℕ} → Fits b w → Fits (either a b) w
  none : {a : Pattern} → Fits (many a) []
  more : {a : Pattern} {u v w : List ℕ} → w ≡ u ++ v → Fits a u → Fits (many a) v → Fits (many a) w

-- What a field may hold: "A field without a pattern shall now hold one character or more" (request K5).
pub data Held : Type 0 where
  some_text : Held
  pattern : Pattern → Held

-- the texts that a field may hold
abbrev pub Holds : Held → List ℕ → Type 0
Holds some_text w = 0 < length w
Holds (pattern p) w = Fits p w
