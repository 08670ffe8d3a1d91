-- Records changed by whether their field stands, from the bytes of what was read, by where the fields' patterns stand in them and by how often each
-- field does: for all bytes. What it has to do with the question of a good sheet, and with a rule, is proved (`FromSaid`).
use Rattle.std.specs.Prelude.{ℕ, zero, suc, ◌+◌, ◌≡◌, Bool, false, cond, List, [], ◌∷◌, ◌++◌, ltb, eqb, get_or, drop}
use Rattle.paper.specs.Numbers.{fields}
use Rattle.paper.specs.Pattern.{Held, pattern}
use Rattle.paper.specs.Alphabet.{Edition, edition_1, edition_2, alphabet_of}
use Rattle.paper.specs.Sheet.{bytes_left, body}
use Rattle.paper.specs.Saying.{pattern_saying}
use Rattle.paper_carry.specs.Opened.{written_out, with_open}
use Rattle.paper_strays.specs.Kept.{if_it_stands}
use Rattle.base_editions.specs.Editions.{paper_edition}
use Rattle.base_question.specs.Bodies.{nowhere}
use Rattle.base_question.specs.declared.Body.{Body}
use Rattle.carry_records.specs.declared.Change.{Change}
use Rattle.carry_records.specs.declared.Change.TheVariants.{Open, Drop}

-- what a field may hold then
abbrev pub how_changed : Change → Bool → Held → Held
how_changed (Open e) stands h = with_open (alphabet_of (paper_edition e)).characters stands h
how_changed Drop stands h = if_it_stands stands h

-- what is written out is so in the edition of the sheet
abbrev pub InEdition : Edition → Change → Type 0
InEdition ed (Open e) = paper_edition e ≡ ed
InEdition ed Drop = Unit {0}

-- how many bytes the record of a pattern of so many has, if they are there from the offset on; 0 where there is no pattern
unfoldable pub record_length : List ℕ → ℕ → ℕ → ℕ
record_length s at n = cond (eqb n 0) 0 (cond (ltb (bytes_left s at) (4 + n)) 0 (4 + n))

-- the pattern that is written out in an edition, its length in front
abbrev pub out_bytes : Edition → List ℕ
out_bytes edition_1 = 4 ∷ 68 ∷ 65 ∷ 0 ∷ 42 ∷ []
out_bytes edition_2 = 4 ∷ 196 ∷ 193 ∷ 0 ∷ 127 ∷ []

-- the record that is written out for a field which stands
abbrev pub record_out : Edition → ℕ → ℕ → List ℕ
record_out e f count = cond (eqb count 0) [] (pattern_saying e f (pattern (written_out (alphabet_of e).characters)))

-- what is put for a field without a record
abbrev pub missing : Change → ℕ → ℕ → List ℕ
missing (Open e) f count = record_out (paper_edition e) f count
missing Drop f count = []

-- the record of a field that stands so often is left out
abbrev pub leaves_out : Change → ℕ → Bool
leaves_out (Open e) count = false
leaves_out Drop count = eqb count 0

-- what is put for a field: its record, or what is put where there is none
unfoldable pub field_put : Change → List ℕ → ℕ → ℕ → ℕ → ℕ → List ℕ
field_put c s at f n count =
    cond (eqb (record_length s at n) 0) (missing c f count) (cond (leaves_out c count) [] (body s at (record_length s at n)))

-- how many bytes the field's pattern has
abbrev pub bytes_of : List Body → ℕ → ℕ
bytes_of bodies f = (get_or bodies f nowhere).length

-- the records of n fields, from f on, and all that is left behind them
abbrev pub from_field : Change → ℕ → List ℕ → ℕ → ℕ → List Body → List ℕ → List ℕ
from_field c zero s at f bodies counts = drop at s
from_field c (suc n) s at f bodies counts =
    field_put c s at f (bytes_of bodies f) (get_or counts f 0) ++ from_field c n s (at + record_length s at (bytes_of bodies f)) (suc f) bodies counts

unfoldable pub changed_from : Change → List ℕ → ℕ → List Body → List ℕ → List ℕ
changed_from c s from bodies counts = from_field c fields s from 0 bodies counts
