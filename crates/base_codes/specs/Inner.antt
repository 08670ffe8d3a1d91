-- Inner codes: how the paper's tokens and moves stand in the library, whatever bytes a sheet has for them. A character is its value, a
-- field its number behind 192, and 255 is no token. A side is its tokens, then 255s: it ends at its first 255, so that every list of
-- bytes is a side.
use Rattle.std.specs.Prelude.{ℕ, ◌+◌, ◌-◌, Bool, cond, ◌&&◌, not, List, [], ◌∷◌, ◌++◌, map, leb, ltb, eqb, length, replicate}
use Rattle.paper.specs.Numbers.{longest_side}
use Rattle.paper.specs.Equation.{Token, chr, fld, Side}
use Rattle.paper.specs.Situation.{Move, strike_left, strike_right, put}

-- the token of field 0
abbrev pub field_code : ℕ
field_code = 192

-- no token
abbrev pub no_token : ℕ
no_token = 255

-- the steps that are no character
abbrev pub left_struck : ℕ
left_struck = 254

abbrev pub right_struck : ℕ
right_struck = 255

abbrev pub token_code : Token → ℕ
token_code (chr c) = c
token_code (fld f) = field_code + f

abbrev pub side_code : Side → List ℕ
side_code side = map token_code side

abbrev pub move_code : Move → ℕ
move_code strike_left = left_struck
move_code strike_right = right_struck
move_code (put c) = c

abbrev pub is_code : ℕ → Bool
is_code b = not (eqb b no_token)

abbrev pub is_char : ℕ → Bool
is_char b = ltb b field_code

abbrev pub is_field_code : ℕ → Bool
is_field_code b = leb field_code b && ltb b no_token

-- the number of the field with this token
abbrev pub field_of : ℕ → ℕ
field_of b = b - field_code

-- the token in front, if there is one
abbrev pub front : List ℕ → ℕ
front [] = no_token
front (b ∷ side) = b

-- the tokens of a side: those before its first 255
abbrev pub tokens : List ℕ → List ℕ
tokens [] = []
tokens (b ∷ bytes) = cond (eqb b no_token) [] (b ∷ tokens bytes)

-- a side in its 48 bytes
abbrev pub padded : List ℕ → List ℕ
padded side = side ++ replicate (longest_side - length side) no_token
