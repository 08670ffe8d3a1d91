-- Known questions: which characters are alike, the least ones, the few ones. The checker computes them.
use Prim.Native.Nat.{ℕ}
use mathlib.Core.Path.{◌≡◌, refl}
use mathlib.Core.Bool.{true, false}
use mathlib.Core.List.{[], ◌∷◌, map}
use Rattle.paper.specs.Pattern.{range, char, leaf, then, many, some_text, pattern}
use Rattle.paper.specs.Equation.{chr, fld}
use Rattle.paper.specs.Alphabet.{code_39}
use Rattle.paper.specs.Question.{Question, hidden}
use Rattle.paper_decide.specs.Alike.{alike_in, fixed, fields_standing, alike, is_least, least_ones}
use Rattle.paper_decide.specs.Few.{leaf_choice, chosen_for, few}

-- x is 5 to 9 and then 12, y open, z any number of 8 to 14; the sides x5y and zx
abbrev three_fields : Question
three_fields =
    record {
      alphabet = code_39;
      left = fld 0 ∷ chr 5 ∷ fld 1 ∷ [];
      right = fld 2 ∷ fld 0 ∷ [];
      held = pattern (then (leaf (range 5 9)) (leaf (char 12))) ∷ some_text ∷ pattern (many (leaf (range 8 14))) ∷ [];
    }

-- x is 5, and stands before a 5; x5 and nothing
abbrev fixed_alone : Question
fixed_alone = record { alphabet = code_39; left = fld 0 ∷ chr 5 ∷ []; right = []; held = pattern (leaf (char 5)) ∷ [] }

-- x open, y is 12; x and y
abbrev open_first : Question
open_first = record { alphabet = code_39; left = fld 0 ∷ []; right = fld 1 ∷ []; held = some_text ∷ pattern (leaf (char 12)) ∷ [] }

-- no field stands; 0 and 1
abbrev no_field : Question
no_field = record { alphabet = code_39; left = chr 0 ∷ []; right = chr 1 ∷ []; held = [] }

-- A fixed character is alike to itself alone; those between 5 and 9 are told apart by z, those between 8 and 14 by x.
pub known_alike :
    map (λ (c : ℕ × ℕ). alike three_fields c.0 c.1)
    ((0, 4) ∷ (42, 15) ∷ (5, 5) ∷ (5, 6) ∷ (6, 5) ∷ (6, 7) ∷ (7, 8) ∷ (8, 9) ∷ (9, 10) ∷ (10, 14) ∷ (11, 12) ∷ (14, 15) ∷ [])
    ≡ true ∷ true ∷ true ∷ false ∷ false ∷ true ∷ false ∷ true ∷ false ∷ true ∷ false ∷ false ∷ []
unfolding alike_in fixed fields_standing alike
known_alike = refl

-- With the hidden fields the space is one of its own.
pub known_least :
    map least_ones (three_fields ∷ hidden three_fields ∷ fixed_alone ∷ open_first ∷ no_field ∷ [])
    ≡ (0 ∷ 5 ∷ 6 ∷ 8 ∷ 10 ∷ 12 ∷ []) ∷ (0 ∷ 5 ∷ 6 ∷ 8 ∷ 10 ∷ 12 ∷ 38 ∷ []) ∷ (0 ∷ 5 ∷ []) ∷ (0 ∷ 12 ∷ []) ∷ (0 ∷ 1 ∷ 2 ∷ []) ∷ []
unfolding alike_in fixed fields_standing alike is_least least_ones
known_least = refl

-- x's first leaf takes the fixed 5, but 6 is not fixed; y's and z's leaves take one that is chosen already. Where a leaf takes the fixed 5 alone, it
-- is chosen; for an open field that comes first, the least of all is; and so where no field stands.
pub known_few :
    map few (three_fields ∷ hidden three_fields ∷ fixed_alone ∷ open_first ∷ no_field ∷ []) ≡ (6 ∷ 12 ∷ []) ∷ (6 ∷ 12 ∷ 38 ∷ []) ∷ (5 ∷ []) ∷ (0 ∷ 12 ∷ []) ∷ (0 ∷ []) ∷ []
unfolding alike_in fixed fields_standing alike is_least least_ones leaf_choice chosen_for few
known_few = refl
