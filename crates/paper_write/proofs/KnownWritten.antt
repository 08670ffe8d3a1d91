-- Known sheets written: the checker computes them.
use Prim.Native.Nat.{ℕ}
use mathlib.Core.Path.{◌≡◌, refl}
use mathlib.Core.List.{List, [], ◌∷◌, ◌++◌, map}
use lib.ListN.{replicate}
use Rattle.paper.specs.Written.{judge}
use Rattle.paper.specs.Alphabet.{code}
use Rattle.paper.specs.Sheet.{not_one_pattern, wrong_token, wrong_edition, stray_pattern, marked, pattern_record, side_record, read_end, marked_side}
use Rattle.paper.specs.Sheet.{next_is, edition_front, strays_of, read_by, read_sheet}
use Rattle.paper.specs.Saying.{ToSay, sheet_laid}
use Rattle.paper_carry.specs.Spelling.{Spelling, spelling_told}
use Rattle.paper.proofs.known.KnownSheet.{PA, LE, RI}
use Rattle.paper_write.specs.Laying.{at_fault, laid_out, record_laid, side_record_laid, laying_in, laying}
use Rattle.paper_write.specs.Writing.{writing}

abbrev lent : ℕ → List ℕ
lent n = replicate n 165

-- Field 0 has the pattern, the left side is a field and the byte `b`, the right one the field.
abbrev given : ℕ → List ℕ → ℕ → ℕ → ToSay
given n pattern field b =
    record { edition = n; patterns = pattern; lengths = 3 ∷ []; left = field ∷ b ∷ []; right = field ∷ [] }

-- 0 is for no `ED`: 65 0 9 is a range there, 64 the token of field 0
abbrev first : ℕ → ToSay
first b = given 0 (65 ∷ 0 ∷ 9 ∷ []) 64 b

-- and for 2, the range 193 48 57 and the token 192
abbrev second : ℕ → ToSay
second b = given 2 (193 ∷ 48 ∷ 57 ∷ []) 192 b

abbrev ED : List ℕ
ED = 69 ∷ 68 ∷ 2 ∷ []

-- In the first edition, and 17 for 43; in the second, where 64 and 127 are characters; a byte too short; 17 for 128 and 200; 44 for any other edition,
-- one that no byte holds too, before what else is wrong.
abbrev told : List Spelling
told =
    spelling_told 0 0 16 (PA 0 (65 ∷ 0 ∷ 9 ∷ []) ++ LE (64 ∷ 42 ∷ []) ++ RI (64 ∷ [])) ∷ spelling_told 17 11 0 (lent 16)
    ∷ spelling_told 0 0 19 (ED ++ PA 0 (193 ∷ 48 ∷ 57 ∷ []) ++ LE (192 ∷ 64 ∷ []) ++ RI (192 ∷ []))
    ∷ spelling_told 0 0 19 (ED ++ PA 0 (193 ∷ 48 ∷ 57 ∷ []) ++ LE (192 ∷ 127 ∷ []) ++ RI (192 ∷ []))
    ∷ spelling_told 41 0 0 (lent 18) ∷ spelling_told 17 14 0 (lent 19) ∷ spelling_told 17 14 0 (lent 19)
    ∷ spelling_told 44 2 0 [] ∷ spelling_told 44 2 0 [] ∷ spelling_told 44 2 0 [] ∷ []

pub written_known :
    writing (first 42) (lent 16) ∷ writing (first 43) (lent 16) ∷ writing (second 64) (lent 19) ∷ writing (second 127) (lent 19)
    ∷ writing (second 64) (lent 18) ∷ writing (second 128) (lent 19) ∷ writing (second 200) (lent 19)
    ∷ writing (given 1 (65 ∷ 0 ∷ 9 ∷ []) 64 64) [] ∷ writing (given 3 [] 255 255) [] ∷ writing (given 256 [] 192 255) [] ∷ []
    ≡ told
unfolding judge marked pattern_record side_record read_end marked_side next_is code edition_front read_by strays_of read_sheet sheet_laid writing
written_known = refl

-- Fields 0, 1 and 3 have patterns: their records' marks are at 0, 7 and 12, and the left side's at 17.
abbrev several : ℕ → List ℕ → List ℕ → List ℕ → ToSay
several n patterns left right = record { edition = n; patterns = patterns; lengths = 3 ∷ 1 ∷ 0 ∷ 1 ∷ []; left = left; right = right }

abbrev three : List ℕ → List ℕ → ToSay
three = several 0 (65 ∷ 0 ∷ 9 ∷ 10 ∷ 11 ∷ [])

abbrev three_2 : List ℕ → List ℕ → ToSay
three_2 = several 2 (193 ∷ 48 ∷ 57 ∷ 10 ∷ 11 ∷ [])

abbrev its_patterns : List ℕ
its_patterns = PA 0 (65 ∷ 0 ∷ 9 ∷ []) ++ PA 1 (10 ∷ []) ++ PA 3 (11 ∷ [])

-- A stray alone; two, with the first one's mark; the same in no buffer, where it comes before 41; beside a wrong token of the other side, which is 17;
-- behind `ED`, where 65 is a character and no field; and none where fields stand on the right side only.
pub strays_known :
    writing (three (64 ∷ 65 ∷ []) []) (lent 30) ∷ writing (three (64 ∷ []) []) (lent 30) ∷ writing (three (64 ∷ []) []) []
    ∷ writing (three (64 ∷ []) (65 ∷ 43 ∷ [])) (lent 30) ∷ writing (three_2 (192 ∷ 65 ∷ []) (195 ∷ [])) (lent 30)
    ∷ writing (three (64 ∷ []) (65 ∷ 67 ∷ [])) (lent 26) ∷ []
    ≡ spelling_told 22 12 0 (lent 30) ∷ spelling_told 22 7 0 (lent 30) ∷ spelling_told 22 7 0 [] ∷ spelling_told 17 25 0 (lent 30)
    ∷ spelling_told 22 10 0 (lent 30) ∷ spelling_told 0 0 26 (its_patterns ++ LE (64 ∷ []) ++ RI (65 ∷ 67 ∷ [])) ∷ []
unfolding judge marked pattern_record side_record read_end marked_side next_is code edition_front read_by strays_of read_sheet sheet_laid writing
strays_known = refl

-- Record by record: behind `ED` a pattern of 65 0 9 is three characters, and no single pattern; and strays, behind the sides.
pub laid_known :
    map laying (second 64 ∷ given 2 (65 ∷ 0 ∷ 9 ∷ []) 192 0 ∷ second 128 ∷ given 1 [] 64 64 ∷ three (64 ∷ []) [] ∷ three (64 ∷ []) (65 ∷ 43 ∷ [])
    ∷ three_2 (192 ∷ 65 ∷ []) (195 ∷ []) ∷ three (64 ∷ []) (65 ∷ 67 ∷ []) ∷ [])
    ≡ laid_out (ED ++ PA 0 (193 ∷ 48 ∷ 57 ∷ []) ++ LE (192 ∷ 64 ∷ []) ++ RI (192 ∷ [])) ∷ at_fault not_one_pattern 8 ∷ at_fault wrong_token 14
    ∷ at_fault wrong_edition 2 ∷ at_fault stray_pattern 7 ∷ at_fault wrong_token 25 ∷ at_fault stray_pattern 10
    ∷ laid_out (its_patterns ++ LE (64 ∷ []) ++ RI (65 ∷ 67 ∷ [])) ∷ []
unfolding judge code record_laid side_record_laid laying_in laying
laid_known = refl
