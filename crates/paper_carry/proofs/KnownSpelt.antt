-- Known sheets, rules and catalogues carried over: the checker computes them.
use Prim.Native.Nat.{ℕ}
use mathlib.Core.Path.{◌≡◌, refl}
use mathlib.Core.List.{List, [], ◌∷◌, ◌++◌, map}
use lib.ListN.{replicate}
use Rattle.paper.specs.Lists.{from, upto, each}
use Rattle.paper.specs.Written.{judge}
use Rattle.paper.specs.Alphabet.{code, byte_of}
use Rattle.paper.specs.Sheet.{marked, pattern_record, side_record, read_end, marked_side, next_is, edition_front, strays_of, read_by, read_sheet}
use Rattle.paper.specs.Rule.{rule_front, read_rule_before, read_rule, foreign_field}
use Rattle.paper.specs.Saying.{sheet_laid, sheet_saying}
use Rattle.paper_catalogue.specs.Catalogue.{form_by}
use Rattle.paper.proofs.known.KnownSheet.{PA, LE, RI}
use Rattle.paper_carry.specs.Opened.{rule_open}
use Rattle.paper_carry.specs.Spelling.{spelling_told, spelling, rule_spelling, CarriedOver, rules_open, carrying_over}
use Rattle.paper_carry.specs.Spelling.{longest_sheet, longest_rule, longest_rules}

-- 68 65 0 42
abbrev any : List ℕ
any = 68 ∷ 65 ∷ 0 ∷ 42 ∷ []

abbrev digit : List ℕ
digit = 65 ∷ 0 ∷ 9 ∷ []

abbrev RU : List ℕ
RU = 82 ∷ 85 ∷ []

abbrev lent : ℕ → List ℕ
lent n = replicate n 165

-- field 1 stands on the left and field 3 on the right, without a pattern; fields 0 and 2 have one and stand
abbrev old : List ℕ
old = PA 0 digit ++ PA 2 (10 ∷ []) ++ LE (64 ∷ 65 ∷ 66 ∷ []) ++ RI (64 ∷ 67 ∷ [])

abbrev new : List ℕ
new = PA 0 digit ++ PA 1 any ++ PA 2 (10 ∷ []) ++ PA 3 any ++ LE (64 ∷ 65 ∷ 66 ∷ []) ++ RI (64 ∷ 67 ∷ [])

-- written with a byte to spare; just fitting; a byte too short; nothing to add; a fault; and a stray pattern, before a short buffer
sheets_known :
    spelling old (lent 40) ∷ spelling old (lent 39) ∷ spelling old (lent 38) ∷ spelling new (lent 39) ∷ spelling (PA 8 digit) (lent 1)
    ∷ spelling (PA 0 digit ++ LE [] ++ RI []) (lent 1) ∷ []
    ≡ spelling_told 0 0 39 (new ++ 165 ∷ []) ∷ spelling_told 0 0 39 new ∷ spelling_told 41 0 0 (lent 38) ∷ spelling_told 0 0 39 new
    ∷ spelling_told 13 2 0 (lent 1) ∷ spelling_told 22 0 0 (lent 1) ∷ []
unfolding judge marked pattern_record side_record read_end marked_side next_is code edition_front read_by strays_of read_sheet byte_of sheet_laid sheet_saying spelling
sheets_known = refl

-- The same behind `ED` and 2: field 1 stands on the left and field 3 on the right, without a pattern; 64 to 68 are characters there.
abbrev ED : List ℕ
ED = 69 ∷ 68 ∷ 2 ∷ []

-- 196 193 0 127
abbrev any_2 : List ℕ
any_2 = 196 ∷ 193 ∷ 0 ∷ 127 ∷ []

abbrev digit_2 : List ℕ
digit_2 = 193 ∷ 48 ∷ 57 ∷ []

abbrev old_2 : List ℕ
old_2 = ED ++ PA 0 digit_2 ++ PA 2 (68 ∷ []) ++ LE (192 ∷ 193 ∷ 194 ∷ []) ++ RI (192 ∷ 195 ∷ [])

abbrev new_2 : List ℕ
new_2 = ED ++ PA 0 digit_2 ++ PA 1 any_2 ++ PA 2 (68 ∷ []) ++ PA 3 any_2 ++ LE (192 ∷ 193 ∷ 194 ∷ []) ++ RI (192 ∷ 195 ∷ [])

-- just fitting; a byte too short; nothing to add; an edition that is not there, a missing byte of it, and `ED` before a rule
second_known :
    spelling old_2 (lent 42) ∷ spelling old_2 (lent 41) ∷ spelling new_2 (lent 42) ∷ spelling (69 ∷ 68 ∷ 1 ∷ []) (lent 1) ∷ spelling (69 ∷ 68 ∷ []) (lent 1)
    ∷ rule_spelling (RU ++ ED ++ LE []) (lent 1) ∷ []
    ≡ spelling_told 0 0 42 new_2 ∷ spelling_told 41 0 0 (lent 41) ∷ spelling_told 0 0 42 new_2 ∷ spelling_told 44 2 0 (lent 1) ∷ spelling_told 11 2 0 (lent 1)
    ∷ spelling_told 12 2 0 (lent 1) ∷ []
unfolding judge marked pattern_record side_record read_end marked_side next_is code edition_front read_by strays_of read_sheet byte_of sheet_laid sheet_saying spelling rule_front read_rule_before read_rule rule_spelling
second_known = refl

-- a rule's fields 0 and 2 stand without a pattern, field 1 has one
abbrev old_rule : List ℕ
old_rule = RU ++ PA 1 digit ++ LE (64 ∷ 65 ∷ 66 ∷ [])

abbrev new_rule : List ℕ
new_rule = RU ++ PA 0 any ++ PA 1 digit ++ PA 2 any ++ LE (64 ∷ 65 ∷ 66 ∷ [])

-- a field above 3 is told before a short buffer, behind a fault and behind a stray pattern
rules_known :
    rule_spelling old_rule (lent 31) ∷ rule_spelling old_rule (lent 30) ∷ rule_spelling (RU ++ LE (68 ∷ [])) [] ∷ rule_spelling (RU ++ LE (68 ∷ []) ++ 0 ∷ []) []
    ∷ rule_spelling (RU ++ PA 1 digit ++ LE (68 ∷ [])) [] ∷ []
    ≡ spelling_told 0 0 31 new_rule ∷ spelling_told 41 0 0 (lent 30) ∷ spelling_told 31 0 0 [] ∷ spelling_told 12 6 0 [] ∷ spelling_told 22 2 0 [] ∷ []
unfolding judge marked pattern_record side_record marked_side next_is code rule_front read_rule_before strays_of read_rule foreign_field byte_of rule_open rule_spelling
rules_known = refl

abbrev carried : ℕ → List ℕ → CarriedOver
carried number catalogue = record { number = number; catalogue = catalogue }

-- two rules and room for both; a byte less; no catalogue; an empty one
catalogues_known :
    map carrying_over
    ((old_rule ++ RU ++ LE (10 ∷ []) ++ replicate 17 0) ∷ (old_rule ++ RU ++ LE (10 ∷ []) ++ replicate 15 0) ∷ (RU ++ 0 ∷ []) ∷ (0 ∷ 0 ∷ []) ∷ [])
    ≡ carried 0 (new_rule ++ RU ++ LE (10 ∷ []) ++ 0 ∷ []) ∷ carried 32 (old_rule ++ RU ++ LE (10 ∷ []) ++ replicate 15 0) ∷ carried 34 (RU ++ 0 ∷ [])
    ∷ carried 0 (0 ∷ 0 ∷ []) ∷ []
unfolding judge marked pattern_record side_record marked_side next_is code rule_front foreign_field form_by strays_of byte_of rule_open rules_open carrying_over
catalogues_known = refl

-- The bytes that are always enough.
pub enough_known : longest_sheet ∷ longest_rule ∷ longest_rules ∷ [] ≡ 1625 ∷ 813 ∷ 26016 ∷ []
enough_known = refl

-- A sheet and a rule that take them all: `ED` and 2, each field with a pattern of 192 bytes, each side with 24 tokens, every field among them.
abbrev full_pattern : ℕ → ℕ → List ℕ
full_pattern star f = PA f (replicate 191 star ++ 0 ∷ [])

abbrev full_sheet : List ℕ
full_sheet = ED ++ each (full_pattern 196) (upto 8) ++ LE (from 192 8 ++ replicate 16 10) ++ RI (replicate 24 10)

abbrev full_rule : List ℕ
full_rule = RU ++ each (full_pattern 68) (upto 4) ++ LE (from 64 4 ++ replicate 20 10)

pub none_to_spare :
    (spelling full_sheet (lent 1625)).number ∷ (spelling full_sheet (lent 1624)).number ∷ (rule_spelling full_rule (lent 813)).number
    ∷ (rule_spelling full_rule (lent 812)).number ∷ []
    ≡ 0 ∷ 41 ∷ 0 ∷ 41 ∷ []
unfolding judge marked pattern_record side_record read_end marked_side next_is code edition_front read_by strays_of read_sheet byte_of sheet_laid sheet_saying spelling rule_front read_rule_before read_rule foreign_field rule_open rule_spelling
none_to_spare = refl
