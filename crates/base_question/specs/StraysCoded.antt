-- Patterns for fields that stand in neither side (request K13), by where the patterns stand and by the sides' inner codes. For all bodies and bytes; that
-- they are the strays of what was read is proved (`Strays`).
use Rattle.std.specs.Prelude.{ℕ, ◌+◌, Bool, ◌&&◌, List, [], ◌∷◌, ◌++◌, Option, Some, None, ltb, eqb, get_or}
use Rattle.paper.specs.Lists.{upto, keep}
use Rattle.paper.specs.Numbers.{fields}
use Rattle.base_codes.specs.Inner.{field_code, tokens}
use Rattle.base_question.specs.Bodies.{nowhere}
use Rattle.base_question.specs.Standings.{count}
use Rattle.base_question.specs.declared.Body.{Body}

-- the field has a pattern, and no token of the sides is the field
abbrev pub stray_coded : List Body → List ℕ → List ℕ → ℕ → Bool
stray_coded bodies left right f = ltb 0 (get_or bodies f nowhere).length && eqb (count (field_code + f) (tokens left ++ tokens right)) 0

unfoldable pub strays_coded : List Body → List ℕ → List ℕ → List ℕ
strays_coded bodies left right = keep (stray_coded bodies left right) (upto fields)

-- the first of some fields
abbrev pub first_of : List ℕ → Option ℕ
first_of [] = None
first_of (f ∷ fs) = Some f
