-- The characters that labels are made of: how many there are, by value from 0 on, and which of them is the space. Every question has its own
-- alphabet; 01's is Code 39. And the two editions of a sheet (request K10): which bytes of its patterns and sides are characters, and which stand
-- for the codes of patterns and the tokens of fields.
use Rattle.std.specs.Prelude.{ℕ, ◌+◌, ◌-◌, cond, ◌&&◌, List, map, leb, ltb, eqb}
use Rattle.paper.specs.Numbers as Numbers
use Rattle.paper.specs.Numbers.{fields, most_characters, field_token, not_a_code}

pub record Alphabet : Type 0 where
  pub characters : ℕ
  pub space : ℕ

-- "Code 39, by value"
abbrev pub code_39 : Alphabet
code_39 = record { characters = Numbers.characters; space = Numbers.space }

-- "Characters are then 0 to 127, .. and the hidden space is 32."
abbrev pub full_ascii : Alphabet
full_ascii = record { characters = most_characters; space = 32 }

-- a sheet without `ED`, and one that begins with `ED` and the byte 2
pub data Edition : Type 0 where
  edition_1 : Edition
  edition_2 : Edition

abbrev pub alphabet_of : Edition → Alphabet
alphabet_of edition_1 = code_39
alphabet_of edition_2 = full_ascii

-- the edition whose alphabet it is
abbrev pub edition_of : Alphabet → Edition
edition_of a = cond (eqb a.characters Numbers.characters) edition_1 edition_2

-- the byte that stands for the first code, which the others follow: "field tokens 192 to 199, .. and pattern codes 192 to 196 stand for 64 to 68"
abbrev pub codes_from : Edition → ℕ
codes_from edition_1 = 64
codes_from edition_2 = field_token

-- What a byte of a pattern or of a side says, in both editions by the same codes: a character is its value, the eight bytes from 64 on, behind `ED`
-- from 192 on, are 192 to 199, and any other byte is none of them, 255. Behind `ED` "64 to 68 are characters, in patterns too".
unfoldable pub code : Edition → ℕ → ℕ
code e b =
    cond (ltb b (alphabet_of e).characters) b
    (cond (leb (codes_from e) b && ltb b (codes_from e + fields)) (field_token + (b - codes_from e)) not_a_code)

abbrev pub codes : Edition → List ℕ → List ℕ
codes e bytes = map (code e) bytes

-- the byte that says a code
unfoldable pub byte_of : Edition → ℕ → ℕ
byte_of e c = cond (ltb c field_token) c (codes_from e + (c - field_token))

abbrev pub bytes_of : Edition → List ℕ → List ℕ
bytes_of e cs = map (byte_of e) cs
