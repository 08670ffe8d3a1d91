-- The question sheet (document 01, "The question sheet" and "Checks on the sheet"): every fault in 01's order with its place, the byte itself
-- (request K2), and the question of a good sheet. A sheet is any list of bytes.
use Rattle.std.specs.Prelude.{ℕ, zero, suc, ◌+◌, ◌-◌, Bool, true, false, cond, not, ◌&&◌, ◌||◌, List, [], ◌∷◌, ◌++◌, map, leb, ltb, eqb, length, get_or, take, drop, set, replicate}
use Rattle.paper.specs.Lists.{upto, keep, all, leading}
use Rattle.paper.specs.Numbers.{most_characters, fields, field_token, pattern_bytes, sheet_side}
use Rattle.paper.specs.Pattern.{Pattern, Held, some_text, pattern}
use Rattle.paper.specs.Written.{Judged, judged, judge}
use Rattle.paper.specs.Written as Written
use Rattle.paper.specs.Equation.{Token, chr, fld, Side, stands_in}
use Rattle.paper.specs.Alphabet.{Edition, edition_1, edition_2, alphabet_of, codes}
use Rattle.paper.specs.Question.{Question}

-- the faults of a sheet
pub data Fault : Type 0 where
  cut_short : Fault
  wrong_mark : Fault
  wrong_field : Fault
  wrong_length : Fault
  not_one_pattern : Fault
  too_many_leaves : Fault
  wrong_token : Fault
  wrong_edition : Fault
  stray_pattern : Fault

-- 01's numbers for them, and those of K10 and K13 for the last two
abbrev pub fault_number : Fault → ℕ
fault_number cut_short = 11
fault_number wrong_mark = 12
fault_number wrong_field = 13
fault_number wrong_length = 14
fault_number not_one_pattern = 15
fault_number too_many_leaves = 16
fault_number wrong_token = 17
fault_number wrong_edition = 44
fault_number stray_pattern = 22

-- what a check on a record finds: the fault and its place, or what the record says and the offset at which it ends
pub data Checked (A : Type 0) : Type 0 where
  fault : Fault → ℕ → Checked A
  read : A → ℕ → Checked A

-- a field and its pattern
pub record FieldPattern : Type 0 where
  pub field : ℕ
  pub its : Pattern

abbrev pub byte_at : List ℕ → ℕ → ℕ
byte_at s i = get_or s i 0

-- the bytes from the offset on
abbrev pub bytes_left : List ℕ → ℕ → ℕ
bytes_left s at = length s - at

abbrev pub body : List ℕ → ℕ → ℕ → List ℕ
body s at n = take n (drop at s)

-- the codes of bytes of a pattern or of a side
abbrev pub body_codes : Edition → List ℕ → ℕ → ℕ → List ℕ
body_codes e s at n = codes e (body s at n)

-- "Every record begins with a two-byte mark": `PA`, `LE`, `RI`, `RU` for a rule of a catalogue, and `ED` for the edition
pub data Mark : Type 0 where
  PA : Mark
  LE : Mark
  RI : Mark
  RU : Mark
  ED : Mark

abbrev pub first_letter : Mark → ℕ
first_letter PA = 80
first_letter LE = 76
first_letter RI = 82
first_letter RU = 82
first_letter ED = 69

abbrev pub second_letter : Mark → ℕ
second_letter PA = 65
second_letter LE = 69
second_letter RI = 73
second_letter RU = 85
second_letter ED = 68

unfoldable pub marked : Mark → List ℕ → ℕ → Bool
marked m s at = eqb (byte_at s at) (first_letter m) && eqb (byte_at s (at + 1)) (second_letter m)

-- "then for a pattern 15, then 16": the pattern's bytes start at the offset
abbrev pub pattern_judged : Judged → ℕ → ℕ → ℕ → Checked FieldPattern
pattern_judged (Written.not_one_pattern i) start f next = fault not_one_pattern (start + i)
pattern_judged (Written.too_many_leaves i) start f next = fault too_many_leaves (start + i)
pattern_judged (judged p) start f next = read (record { field = f; its = p }) next

-- A record `PA` at the offset, field numbers allowed from `least` on: "missing field or length byte 11; field above 7 or not above the
-- field before it 13; length out of its range 14; missing body 11; then for a pattern 15, then 16". "The place should be the byte itself: for 11
-- the sheet's length; .. for 13 the field byte; for 14 the length byte".
unfoldable pub pattern_record : Edition → List ℕ → ℕ → ℕ → Checked FieldPattern
pattern_record e s at least =
    cond (ltb (bytes_left s at) 4) (fault cut_short (length s))
    (cond (leb fields (byte_at s (at + 2)) || ltb (byte_at s (at + 2)) least) (fault wrong_field (at + 2))
    (cond (eqb (byte_at s (at + 3)) 0 || ltb pattern_bytes (byte_at s (at + 3))) (fault wrong_length (at + 3))
    (cond (ltb (bytes_left s at) (4 + byte_at s (at + 3))) (fault cut_short (length s))
    (pattern_judged (judge (body_codes e s (at + 4) (byte_at s (at + 3)))) (at + 4) (byte_at s (at + 2)) (at + (4 + byte_at s (at + 3)))))))

-- "A token is 0 to 42 (a character) or 64 to 71 (field 0 to 7)": by its code
abbrev pub is_token : ℕ → Bool
is_token c = ltb c most_characters || (leb field_token c && ltb c (field_token + fields))

abbrev pub token : ℕ → Token
token c = cond (ltb c most_characters) (chr c) (fld (c - field_token))

-- A side at the offset: "missing .. length byte 11; .. length out of its range 14; missing body 11; .. for a side 17", whose place is "the token".
unfoldable pub side_record : Edition → List ℕ → ℕ → Checked Side
side_record e s at =
    cond (ltb (bytes_left s at) 3) (fault cut_short (length s))
    (cond (ltb sheet_side (byte_at s (at + 2))) (fault wrong_length (at + 2))
    (cond (ltb (bytes_left s at) (3 + byte_at s (at + 2))) (fault cut_short (length s))
    (cond (all is_token (body_codes e s (at + 3) (byte_at s (at + 2))))
    (read (map token (body_codes e s (at + 3) (byte_at s (at + 2)))) (at + (3 + byte_at s (at + 2))))
    (fault wrong_token (at + 3 + leading is_token (body_codes e s (at + 3) (byte_at s (at + 2))))))))

-- the mark stands at the offset
unfoldable pub next_is : Mark → List ℕ → ℕ → Bool
next_is m s at = cond (ltb (bytes_left s at) 2) false (marked m s at)

-- A side behind its mark: "fewer than two bytes left give 11; an unknown mark or one not allowed here gives 12", "for 12 the first byte of the
-- mark".
unfoldable pub marked_side : Edition → Mark → List ℕ → ℕ → Checked Side
marked_side e m s at =
    cond (ltb (bytes_left s at) 2) (fault cut_short (length s)) (cond (marked m s at) (side_record e s at) (fault wrong_mark at))

-- What reading records one behind the other gives: the first fault met with its place, or what they say and the offset at which they end.
pub data Records (A : Type 0) : Type 0 where
  faulty : Fault → ℕ → Records A
  records : A → ℕ → Records A

-- what the patterns' records say: what each field may hold, the place of its record's mark (0 where it has none), and one above the last pattern's
-- field, 0 where there is none
pub record Fields : Type 0 where
  pub held : List Held
  pub marks : List ℕ
  pub above : ℕ

-- "A field without `PA` is open": before the first record every field is.
abbrev pub open_fields : Fields
open_fields = record { held = replicate fields some_text; marks = replicate fields 0; above = 0 }

abbrev pub with_pattern : Fields → ℕ → FieldPattern → Fields
with_pattern fs at fp =
    record { held = set fs.held fp.field (pattern fp.its); marks = set fs.marks fp.field at; above = suc fp.field }

-- A pattern's record, then what comes behind it: "Reading goes on from where the last record ended."
abbrev pub pattern_read : Fields → ℕ → (ℕ → Fields → Records Fields) → Checked FieldPattern → Records Fields
pattern_read fs mark go_on (fault x at) = faulty x at
pattern_read fs mark go_on (read fp next) = go_on next (with_pattern fs mark fp)

-- "no, one or several `PA`, field numbers rising", up to the first record that is none. Every record has bytes, so as many turns as there
-- are bytes, and one, are enough.
abbrev pub read_patterns : Edition → ℕ → List ℕ → ℕ → Fields → Records Fields
read_patterns e zero s at fs = faulty cut_short (length s)
read_patterns e (suc n) s at fs =
    let behind = pattern_read fs at (λ (next : ℕ) (more : Fields). read_patterns e n s next more) (pattern_record e s at fs.above) in
    cond (next_is PA s at) behind (records fs at)

-- what reading a sheet gives: the first fault met with its place, or the question
pub data Reading : Type 0 where
  refused : Fault → ℕ → Reading
  asked : Question → Reading

-- "Patterns for fields that stand in neither side" (request K13): by what the fields may hold and all tokens of the sides
abbrev pub has_pattern : Held → Bool
has_pattern some_text = false
has_pattern (pattern p) = true

abbrev pub is_stray : List Held → Side → ℕ → Bool
is_stray held side f = has_pattern (get_or held f some_text) && not (stands_in f side)

unfoldable pub strays_of : List Held → Side → List ℕ
strays_of held side = keep (is_stray held side) (upto fields)

abbrev pub strays : Question → List ℕ
strays q = strays_of q.held (q.left ++ q.right)

-- the check behind all others: before request K13 there was none, and since "22, with the place of the first stray record's mark"; field numbers
-- rise, so the first stray field's record is the first
abbrev pub LastCheck : Type 0
LastCheck = List ℕ → Question → Reading

abbrev pub no_check : LastCheck
no_check marks q = asked q

abbrev pub at_stray : List ℕ → Question → List ℕ → Reading
at_stray marks q [] = asked q
at_stray marks q (f ∷ fs) = refused stray_pattern (get_or marks f 0)

abbrev pub stray_check : LastCheck
stray_check marks q = at_stray marks q (strays q)

-- "after `RI`, any byte left gives 12", "the first byte after `RI`"; then the last check
unfoldable pub read_end : LastCheck → List ℕ → ℕ → List ℕ → Question → Reading
read_end last s at marks q = cond (ltb at (length s)) (refused wrong_mark at) (last marks q)

module _ (last : LastCheck) where
  -- "one `LE`; one `RI`; the end": a sheet's question is in its edition's characters
  abbrev pub right_read : Edition → List ℕ → Fields → Side → Checked Side → Reading
  right_read e s fs l (fault x at) = refused x at
  right_read e s fs l (read r next) = read_end last s next fs.marks (record { alphabet = alphabet_of e; left = l; right = r; held = fs.held })

  abbrev pub left_read : Edition → List ℕ → Fields → Checked Side → Reading
  left_read e s fs (fault x at) = refused x at
  left_read e s fs (read l next) = right_read e s fs l (marked_side e RI s next)

  abbrev pub sides_read : Edition → List ℕ → Records Fields → Reading
  sides_read e s (faulty x at) = refused x at
  sides_read e s (records fs at) = left_read e s fs (marked_side e LE s at)

-- "A sheet may begin with the record `ED` and the byte 2. .. 11 for the missing byte, then 44 for an edition byte other than 2, its place that byte"
unfoldable pub edition_front : List ℕ → Checked Edition
edition_front s =
    cond (next_is ED s 0)
    (cond (ltb (length s) 3) (fault cut_short (length s)) (cond (eqb (byte_at s 2) 2) (read edition_2 3) (fault wrong_edition 2)))
    (read edition_1 0)

-- "all else in 01's order"
abbrev pub edition_read : LastCheck → List ℕ → Checked Edition → Reading
edition_read last s (fault x at) = refused x at
edition_read last s (read e at) = sides_read last e s (read_patterns e (suc (length s)) s at open_fields)

-- reading with a last check: by the rule before request K13, and since
unfoldable pub read_by : LastCheck → List ℕ → Reading
read_by last s = edition_read last s (edition_front s)

abbrev pub read_before : List ℕ → Reading
read_before s = read_by no_check s

unfoldable pub read_sheet : List ℕ → Reading
read_sheet s = read_by stray_check s
