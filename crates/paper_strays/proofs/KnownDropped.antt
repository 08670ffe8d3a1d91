-- Known sheets, rules and catalogues without their strays, to the byte.
use Prim.Native.Nat.{ℕ}
use mathlib.Core.Path.{◌≡◌, refl}
use mathlib.Core.List.{List, [], ◌∷◌, ◌++◌, map}
use lib.ListN.{replicate}
use Rattle.paper.specs.Alphabet.{code, byte_of}
use Rattle.paper.specs.Written.{judge}
use Rattle.paper.specs.Sheet.{marked, pattern_record, side_record, read_end, marked_side, next_is, edition_front, read_by}
use Rattle.paper.specs.Rule.{rule_front, read_rule_before, foreign_field}
use Rattle.paper.specs.Saying.{sheet_laid, sheet_saying}
use Rattle.paper_catalogue.specs.Catalogue.{form_by}
use Rattle.paper_carry.specs.Spelling.{spelling_told, CarriedOver}
use Rattle.paper.proofs.known.KnownSheet.{PA, LE, RI}
use Rattle.paper_strays.specs.Kept.{rule_kept, rules_kept}
use Rattle.paper_strays.specs.Dropping.{dropping, rule_dropping, catalogue_dropping}

abbrev digit : List ℕ
digit = 65 ∷ 0 ∷ 9 ∷ []

abbrev ED : List ℕ
ED = 69 ∷ 68 ∷ 2 ∷ []

abbrev RU : List ℕ
RU = 82 ∷ 85 ∷ []

abbrev lent : ℕ → List ℕ
lent n = replicate n 165

-- field 0 stands on the left, field 2 on the right only, fields 1 and 7 nowhere
abbrev sides : List ℕ
sides = LE (64 ∷ 10 ∷ []) ++ RI (66 ∷ [])

abbrev old : List ℕ
old = PA 0 digit ++ PA 1 (10 ∷ []) ++ PA 2 digit ++ PA 7 (11 ∷ []) ++ sides

abbrev new : List ℕ
new = PA 0 digit ++ PA 2 digit ++ sides

-- with a byte to spare; just fitting; a byte too short; none to drop; bytes behind `RI`, before the strays; an edition, and one that is not there
sheets_known :
    dropping old (lent 24) ∷ dropping old (lent 23) ∷ dropping old (lent 22) ∷ dropping new (lent 23) ∷ dropping (old ++ 0 ∷ []) (lent 1)
    ∷ dropping (ED ++ PA 3 (68 ∷ []) ++ LE [] ++ RI []) (lent 9) ∷ dropping (69 ∷ 68 ∷ 3 ∷ []) (lent 1) ∷ []
    ≡ spelling_told 0 0 23 (new ++ 165 ∷ []) ∷ spelling_told 0 0 23 new ∷ spelling_told 41 0 0 (lent 22) ∷ spelling_told 0 0 23 new
    ∷ spelling_told 12 33 0 (lent 1) ∷ spelling_told 0 0 9 (ED ++ LE [] ++ RI []) ∷ spelling_told 44 2 0 (lent 1) ∷ []
unfolding judge marked pattern_record side_record read_end marked_side next_is code edition_front read_by byte_of sheet_laid sheet_saying dropping
sheets_known = refl

abbrev old_rule : List ℕ
old_rule = RU ++ PA 1 digit ++ PA 3 (10 ∷ []) ++ LE (65 ∷ [])

abbrev new_rule : List ℕ
new_rule = RU ++ PA 1 digit ++ LE (65 ∷ [])

-- just fitting; a byte too short; a stray pattern's field above 3 is told before a short buffer, and behind a byte behind the rule
rules_known :
    rule_dropping old_rule (lent 13) ∷ rule_dropping old_rule (lent 12) ∷ rule_dropping (RU ++ PA 4 digit ++ LE []) [] ∷ rule_dropping (RU ++ PA 4 digit ++ LE [] ++ 0 ∷ []) [] ∷ []
    ≡ spelling_told 0 0 13 new_rule ∷ spelling_told 41 0 0 (lent 12) ∷ spelling_told 31 0 0 [] ∷ spelling_told 12 12 0 [] ∷ []
unfolding judge marked pattern_record side_record marked_side next_is code rule_front read_rule_before foreign_field byte_of rule_kept rule_dropping
rules_known = refl

abbrev dropped : ℕ → List ℕ → CarriedOver
dropped number catalogue = record { number = number; catalogue = catalogue }

-- two rules, the first with a stray pattern; none; no catalogue; a foreign field; an empty one
catalogues_known :
    map catalogue_dropping
    ((old_rule ++ RU ++ LE (10 ∷ []) ++ 0 ∷ []) ∷ (new_rule ++ 0 ∷ []) ∷ (RU ++ 0 ∷ []) ∷ (RU ++ PA 4 digit ++ LE []) ∷ (0 ∷ 0 ∷ []) ∷ [])
    ≡ dropped 0 (new_rule ++ RU ++ LE (10 ∷ []) ++ replicate 6 0) ∷ dropped 0 (new_rule ++ 0 ∷ []) ∷ dropped 34 (RU ++ 0 ∷ [])
    ∷ dropped 34 (RU ++ PA 4 digit ++ LE []) ∷ dropped 0 (0 ∷ 0 ∷ []) ∷ []
unfolding judge marked pattern_record side_record marked_side next_is code rule_front foreign_field form_by byte_of rule_kept rules_kept catalogue_dropping
catalogues_known = refl
