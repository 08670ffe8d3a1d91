-- Full ASCII spelt in Code 39 (request K10): "spell a text into plain Code 39 .. and read it back, from the table of 128 characters and their one or
-- two Code 39 values in the standard". The standard is ISO/IEC 16388; docs/RULES.md has the table by signs.
use Rattle.std.specs.Prelude.{ℕ, suc, ◌+◌, ◌*◌, Bool, cond, ◌&&◌, List, [], ◌∷◌, ◌++◌, leb, ltb, eqb, get_or}
use Rattle.paper.specs.Lists.{all}
use Rattle.paper.specs.Numbers.{characters}

-- the characters of Full ASCII
abbrev pub ascii : ℕ
ascii = 128

-- where a character is its value alone: no value is 43
abbrev pub no_shift : ℕ
no_shift = characters

-- "256 numbers", two for each character: the value of its shift sign, or 43, and the value behind it. "of the spellings of DEL only `%T`"
unfoldable pub table : List ℕ
table =
    42 ∷ 30 ∷ 39 ∷ 10 ∷ 39 ∷ 11 ∷ 39 ∷ 12 ∷ 39 ∷ 13 ∷ 39 ∷ 14 ∷ 39 ∷ 15 ∷ 39 ∷ 16
    ∷ 39 ∷ 17 ∷ 39 ∷ 18 ∷ 39 ∷ 19 ∷ 39 ∷ 20 ∷ 39 ∷ 21 ∷ 39 ∷ 22 ∷ 39 ∷ 23 ∷ 39 ∷ 24
    ∷ 39 ∷ 25 ∷ 39 ∷ 26 ∷ 39 ∷ 27 ∷ 39 ∷ 28 ∷ 39 ∷ 29 ∷ 39 ∷ 30 ∷ 39 ∷ 31 ∷ 39 ∷ 32
    ∷ 39 ∷ 33 ∷ 39 ∷ 34 ∷ 39 ∷ 35 ∷ 42 ∷ 10 ∷ 42 ∷ 11 ∷ 42 ∷ 12 ∷ 42 ∷ 13 ∷ 42 ∷ 14
    ∷ 43 ∷ 38 ∷ 40 ∷ 10 ∷ 40 ∷ 11 ∷ 40 ∷ 12 ∷ 40 ∷ 13 ∷ 40 ∷ 14 ∷ 40 ∷ 15 ∷ 40 ∷ 16
    ∷ 40 ∷ 17 ∷ 40 ∷ 18 ∷ 40 ∷ 19 ∷ 40 ∷ 20 ∷ 40 ∷ 21 ∷ 43 ∷ 36 ∷ 43 ∷ 37 ∷ 40 ∷ 24
    ∷ 43 ∷ 0 ∷ 43 ∷ 1 ∷ 43 ∷ 2 ∷ 43 ∷ 3 ∷ 43 ∷ 4 ∷ 43 ∷ 5 ∷ 43 ∷ 6 ∷ 43 ∷ 7
    ∷ 43 ∷ 8 ∷ 43 ∷ 9 ∷ 40 ∷ 35 ∷ 42 ∷ 15 ∷ 42 ∷ 16 ∷ 42 ∷ 17 ∷ 42 ∷ 18 ∷ 42 ∷ 19
    ∷ 42 ∷ 31 ∷ 43 ∷ 10 ∷ 43 ∷ 11 ∷ 43 ∷ 12 ∷ 43 ∷ 13 ∷ 43 ∷ 14 ∷ 43 ∷ 15 ∷ 43 ∷ 16
    ∷ 43 ∷ 17 ∷ 43 ∷ 18 ∷ 43 ∷ 19 ∷ 43 ∷ 20 ∷ 43 ∷ 21 ∷ 43 ∷ 22 ∷ 43 ∷ 23 ∷ 43 ∷ 24
    ∷ 43 ∷ 25 ∷ 43 ∷ 26 ∷ 43 ∷ 27 ∷ 43 ∷ 28 ∷ 43 ∷ 29 ∷ 43 ∷ 30 ∷ 43 ∷ 31 ∷ 43 ∷ 32
    ∷ 43 ∷ 33 ∷ 43 ∷ 34 ∷ 43 ∷ 35 ∷ 42 ∷ 20 ∷ 42 ∷ 21 ∷ 42 ∷ 22 ∷ 42 ∷ 23 ∷ 42 ∷ 24
    ∷ 42 ∷ 32 ∷ 41 ∷ 10 ∷ 41 ∷ 11 ∷ 41 ∷ 12 ∷ 41 ∷ 13 ∷ 41 ∷ 14 ∷ 41 ∷ 15 ∷ 41 ∷ 16
    ∷ 41 ∷ 17 ∷ 41 ∷ 18 ∷ 41 ∷ 19 ∷ 41 ∷ 20 ∷ 41 ∷ 21 ∷ 41 ∷ 22 ∷ 41 ∷ 23 ∷ 41 ∷ 24
    ∷ 41 ∷ 25 ∷ 41 ∷ 26 ∷ 41 ∷ 27 ∷ 41 ∷ 28 ∷ 41 ∷ 29 ∷ 41 ∷ 30 ∷ 41 ∷ 31 ∷ 41 ∷ 32
    ∷ 41 ∷ 33 ∷ 41 ∷ 34 ∷ 41 ∷ 35 ∷ 42 ∷ 25 ∷ 42 ∷ 26 ∷ 42 ∷ 27 ∷ 42 ∷ 28 ∷ 42 ∷ 29
    ∷ []

abbrev pub shift_of : ℕ → ℕ
shift_of c = get_or table (2 * c) 0

abbrev pub value_of : ℕ → ℕ
value_of c = get_or table (2 * c + 1) 0

-- The spelling of a character, and of a text.
abbrev pub spelt_by : ℕ → ℕ → List ℕ
spelt_by s v = cond (eqb s no_shift) (v ∷ []) (s ∷ v ∷ [])

abbrev pub spelt : List ℕ → List ℕ
spelt [] = []
spelt (c ∷ text) = spelt_by (shift_of c) (value_of c) ++ spelt text

-- every byte is a character
abbrev pub is_text : List ℕ → Bool
is_text text = all (λ (c : ℕ). ltb c ascii) text

-- every byte is a value of Code 39
abbrev pub are_values : List ℕ → Bool
are_values values = all (λ (v : ℕ). ltb v characters) values

-- the shift signs `$`, `/`, `+` and `%`
abbrev pub is_shift : ℕ → Bool
is_shift v = leb 39 v && ltb v characters

-- the first character that has this shift and this value in the table, of which the rest from the character c on is looked at; else the number
-- behind the last
abbrev pub look_up : List ℕ → ℕ → ℕ → ℕ → ℕ
look_up [] s v c = c
look_up (x ∷ []) s v c = c
look_up (x ∷ y ∷ rest) s v c = cond (eqb x s && eqb y v) c (look_up rest s v (suc c))

abbrev pub character : ℕ → ℕ → ℕ
character s v = look_up table s v 0

-- Reading a spelt text back, from the front: a value alone, or a shift sign and the value behind it. What the table doesn't give is no text.
pub data ReadBack : Type 0 where
  no_text : ReadBack
  text : List ℕ → ReadBack

abbrev pub in_front : ℕ → ReadBack → ReadBack
in_front c no_text = no_text
in_front c (text t) = cond (ltb c ascii) (text (c ∷ t)) no_text

-- s is the shift sign that was read last and waits for its value, or 43
abbrev pub read_from : ℕ → List ℕ → ReadBack
read_from s [] = cond (eqb s no_shift) (text []) no_text
read_from s (v ∷ rest) =
    cond (eqb s no_shift && is_shift v) (read_from v rest) (in_front (character s v) (read_from no_shift rest))

abbrev pub read_back : List ℕ → ReadBack
read_back values = read_from no_shift values
