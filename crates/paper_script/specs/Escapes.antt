-- What a text literal means, in SMT-LIB's theory of Unicode strings: a list of code points. "Arbitrary Unicode characters can be represented with
-- escape sequences": `\u{..}` with one to five hexadecimal digits, of five the first at most 2, and `\u` with four of them. "These are the only
-- escape sequences in this theory": any other byte stands for itself, a backslash that begins none of them too.
use Rattle.std.specs.Prelude.{ℕ, ◌+◌, ◌*◌, ◌-◌, Bool, cond, ◌&&◌, ◌||◌, List, [], ◌∷◌, ◌++◌, leb, ltb, eqb, length}

abbrev pub backslash : ℕ
backslash = 92

abbrev small_u : ℕ
small_u = 117

abbrev opening_brace : ℕ
opening_brace = 123

abbrev closing_brace : ℕ
closing_brace = 125

-- `0` to `9`, `A` to `F`, `a` to `f`
abbrev pub is_hexadecimal : ℕ → Bool
is_hexadecimal b = (leb 48 b && leb b 57) || (leb 65 b && leb b 70) || (leb 97 b && leb b 102)

abbrev pub digit_value : ℕ → ℕ
digit_value b = cond (leb b 57) (b - 48) (cond (leb b 70) (b - 55) (b - 87))

abbrev pub number_behind : ℕ → List ℕ → ℕ
number_behind n [] = n
number_behind n (b ∷ s) = number_behind (16 * n + digit_value b) s

-- the number of these digits
abbrev pub number_of : List ℕ → ℕ
number_of digits = number_behind 0 digits

-- the code points of the theory: 0 to 2FFFF
abbrev pub code_points : ℕ
code_points = 196608

-- where the reader of a literal stands: in no escape, or in what may be one
pub data Escape : Type 0 where
  no_escape : Escape
  behind_backslash : Escape
  -- behind `\u` and these digits
  in_four : List ℕ → Escape
  -- behind `\u{` and these digits
  in_braces : List ℕ → Escape

-- what a byte brings: the code points that are then known, and where the reader stands
pub record Meant : Type 0 where
  pub points : List ℕ
  pub stands : Escape

abbrev pub meant : List ℕ → Escape → Meant
meant points stands = record { points = points; stands = stands }

-- a byte that goes on with no escape
abbrev pub begins : ℕ → Meant
begins b = cond (eqb b backslash) (meant [] behind_backslash) (meant (b ∷ []) no_escape)

-- what had begun is no escape: its bytes stand for themselves, and none of them but the first is a backslash
abbrev pub no_more : List ℕ → Meant → Meant
no_more begun m = meant (begun ++ m.points) m.stands

abbrev pub fourth : List ℕ → Meant
fourth digits = cond (eqb (length digits) 4) (meant (number_of digits ∷ []) no_escape) (meant [] (in_four digits))

abbrev pub may_end : List ℕ → Bool
may_end digits = leb 1 (length digits) && ltb (number_of digits) code_points

abbrev pub byte_meant : Escape → ℕ → Meant
byte_meant no_escape b = begins b
byte_meant behind_backslash b = cond (eqb b small_u) (meant [] (in_four [])) (no_more (backslash ∷ []) (begins b))
byte_meant (in_four digits) b =
    cond (eqb b opening_brace && eqb (length digits) 0) (meant [] (in_braces []))
    (cond (is_hexadecimal b) (fourth (digits ++ (b ∷ []))) (no_more (backslash ∷ small_u ∷ digits) (begins b)))
byte_meant (in_braces digits) b =
    cond (is_hexadecimal b && ltb (length digits) 5) (meant [] (in_braces (digits ++ (b ∷ []))))
    (cond (eqb b closing_brace && may_end digits) (meant (number_of digits ∷ []) no_escape)
    (no_more (backslash ∷ small_u ∷ opening_brace ∷ digits) (begins b)))

-- where the literal ends, no escape does
abbrev pub left_over : Escape → List ℕ
left_over no_escape = []
left_over behind_backslash = backslash ∷ []
left_over (in_four digits) = backslash ∷ small_u ∷ digits
left_over (in_braces digits) = backslash ∷ small_u ∷ opening_brace ∷ digits

abbrev pub meaning_from : Escape → List ℕ → List ℕ
meaning_from at [] = left_over at
meaning_from at (b ∷ s) = let read = byte_meant at b in read.points ++ meaning_from read.stands s

abbrev pub meaning : List ℕ → List ℕ
meaning s = meaning_from no_escape s
