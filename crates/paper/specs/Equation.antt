-- Word equations with constraints (documents 000 and 01): characters, tokens, sides, labels, texts, and what a solution is.
-- Any number of characters, any number of fields. Nothing here knows of patterns, places or the search.
use Rattle.std.specs.Prelude.{ℕ, ◌<◌, ◌≡◌, Bool, true, false, cond, eqb}
use mathlib.Core.List.{List, [], ◌∷◌, ◌++◌, Memᴰ}
use Rattle.paper.specs.Lists.{any}

-- "A token is .. (a character) or .. (field ..)"
pub data Token : Type 0 where
  chr : ℕ → Token
  fld : ℕ → Token

abbrev pub Side : Type 0
Side = List Token

-- the token is the field f
abbrev pub is_field : ℕ → Token → Bool
is_field f (chr c) = false
is_field f (fld g) = eqb f g

-- the field f stands in the side
abbrev pub stands_in : ℕ → Side → Bool
stands_in f side = any (is_field f) side

-- A label is a list of characters, a text for each field likewise.
abbrev pub Texts : Type 0
Texts = ℕ → List ℕ

abbrev pub put_in_token : Texts → Token → List ℕ
put_in_token texts (chr c) = c ∷ []
put_in_token texts (fld f) = texts f

-- a side with its texts put in: a label
abbrev pub label : Texts → Side → List ℕ
label texts [] = []
label texts (t ∷ side) = put_in_token texts t ++ label texts side

-- a character before a label from which the x at the end are dropped
abbrev pub before_dropped : ℕ → ℕ → List ℕ → List ℕ
before_dropped x c [] = cond (eqb c x) [] (c ∷ [])
before_dropped x c (d ∷ w) = c ∷ d ∷ w

-- the label without the x at its end
abbrev pub without_trailing : ℕ → List ℕ → List ℕ
without_trailing x [] = []
without_trailing x (c ∷ w) = before_dropped x c (without_trailing x w)

-- "Two labels are now the same when they are equal after trailing spaces are dropped" (request K3), where x is the space.
abbrev pub Same : ℕ → List ℕ → List ℕ → Type 0
Same x l m = without_trailing x l ≡ without_trailing x m

-- a text over the characters
abbrev pub Over : ℕ → List ℕ → Type 0
Over characters w = (c : ℕ) → Memᴰ c w → c < characters

-- A solution of the word equation: the texts, over the characters, for the fields standing in the sides make both sides one list of
-- characters, and each is one that its field may hold.
pub record Solves (characters : ℕ) (Holds : ℕ → List ℕ → Type 0) (left right : Side) (texts : Texts) : Type 0 where
  pub same_label : label texts left ≡ label texts right
  pub over : (f : ℕ) → stands_in f (left ++ right) ≡ true → Over characters (texts f)
  pub holds : (f : ℕ) → stands_in f (left ++ right) ≡ true → Holds f (texts f)
