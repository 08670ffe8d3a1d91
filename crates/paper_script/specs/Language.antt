-- Regular expressions over texts and their language, as SMT-LIB's theory of Unicode strings has them. A text is a list of code points. Nothing
-- here knows of patterns, Code 39 or sheets.
use Rattle.std.specs.Prelude.{ℕ, ◌≤◌, ◌≡◌, List, [], ◌∷◌, ◌++◌}

pub data Expression : Type 0 where
  -- (str.to_re "w"): the text w alone
  to_re : List ℕ → Expression
  -- (re.range "v" "w"): one code point between two of them; where v or w is not one code point, no text
  span : List ℕ → List ℕ → Expression
  -- (re.++ A B)
  concat : Expression → Expression → Expression
  -- (re.union A B)
  union : Expression → Expression → Expression
  -- (re.* A): "the Kleene closure"
  star : Expression → Expression

-- the language: `Matches e w` says that the text w is in the language of e
pub data Matches : Expression → List ℕ → Type 0 where
  itself : {w : List ℕ} → Matches (to_re w) w
  within : {lo hi c : ℕ} → lo ≤ c → c ≤ hi → Matches (span (lo ∷ []) (hi ∷ [])) (c ∷ [])
  one_then_other : {a b : Expression} {u v w : List ℕ} → w ≡ u ++ v → Matches a u → Matches b v → Matches (concat a b) w
  of_first : {a b : Expression} {w : List ℕ} → Matches a w → Matches (union a b) w
  of_second : {a b : Expression} {w : List ℕ} → Matches b w → Matches (union a b) w
  no_time : {a : Expression} → Matches (star a) []
  once_more : {a : Expression} {u v w : List ℕ} → w ≡ u ++ v → Matches a u → Matches (star a) v → Matches (star a) w
