-- Lines that the program `decide` prints, as text. The checker computes them.
--   decided_lines_known : the lines of a decision, from its numbers and the records in its answer buffer
--   sheets_decided_printed : the lines for whole sheets, with what the program reads and lends
use Prim.Native.Nat.{ℕ}
use Prim.Native.Char.{code as code-point}
use Prim.Native.String.{String, [] as []ₜ, ◌∷◌ as ◌∷ₜ◌}
use mathlib.Core.Path.{◌≡◌, refl}
use mathlib.Core.List.{List, [], ◌∷◌, ◌++◌, map}
use Rattle.paper.specs.Places.{set_after, may_end}
use Rattle.paper.specs.Written.{judge}
use Rattle.paper.specs.Search.{enter, offer, take_next, search}
use Rattle.paper.specs.Situation.{trimmed, strike, put_before, open_moves, child_by, children, question}
use Rattle.paper.specs.Way.{search_from, texts_of}
use Rattle.paper.specs.Question.{acceptor}
use Rattle.paper.specs.Alphabet.{edition_1, edition_2, code}
use Rattle.paper.specs.Sheet.{marked, pattern_record, side_record, read_end, marked_side, next_is, edition_front, strays_of, read_by, read_sheet}
use Rattle.paper.specs.Outcome.{room_of, searched, standing, value_record, records, clash, count_of, how_of}
use Rattle.paper.proofs.known.KnownSheet.{PA, LE, RI, sheet_S}
use Rattle.paper_chosen.specs.Chosen.{acceptor_over, searched_over}
use Rattle.paper_decide.specs.Deciding.{concluded, Decision, decision}
use Rattle.paper_spell.specs.FullAscii.{table}
use Rattle.paper_print.specs.TextLines.{sheet_edition}
use Rattle.paper_print.specs.DecideProgram.{printed_decision, printed_decided}

abbrev ascii : String → List ℕ
ascii []ₜ = []
ascii (c ∷ₜ s) = code-point c ∷ ascii s

-- number, count, place, search, bytes written, answer buffer
abbrev told : ℕ → ℕ → ℕ → ℕ → ℕ → List ℕ → Decision
told n c p k w a = record { outcome = record { number = n; count = c; place = p; written = w; answer = a; work = [] }; search = k }

-- the record of a text of one character
abbrev VA : ℕ → ℕ → List ℕ
VA f c = 86 ∷ 65 ∷ f ∷ 1 ∷ 0 ∷ c ∷ []

-- Four numbers that differ; the records up to the bytes written.
pub decided_lines_known :
    map (printed_decision edition_1) (told 17 65535 802 4 0 (VA 0 4) ∷ told 0 413 0 2 12 (VA 0 4 ++ VA 3 10 ++ VA 5 4) ∷ [])
    ≡ map ascii ("17 65535 802 4\n" ∷ "0 413 0 2\n0 4\n3 A\n" ∷ [])
unfolding printed_decision
decided_lines_known = refl

-- Behind `ED` the texts are spelt: the character 4 is EOT `$D`, 10 is LF `$J`, 65 is `A`, 97 is `a`.
pub spelt_lines_known :
    map (printed_decision edition_2) (told 0 413 0 2 12 (VA 0 4 ++ VA 3 10 ++ VA 5 4) ∷ told 0 2 0 1 12 (VA 0 65 ++ VA 1 97) ∷ [])
    ≡ map ascii ("0 413 0 2\n0 $D\n3 $J\n" ∷ "0 2 0 1\n0 A\n1 +A\n" ∷ [])
unfolding printed_decision table
spelt_lines_known = refl

-- the record `ED`
abbrev ED : List ℕ → List ℕ
ED sheet = 69 ∷ 68 ∷ 2 ∷ sheet

-- sheet S; `A` and `B`; a sheet that ends behind its left mark; behind `ED`, field 0 and `a#`, field 0 and nothing, where its text is one space, and a
-- stray pattern
pub sheets_decided_printed :
    map printed_decided
    (sheet_S ∷
    (LE (10 ∷ []) ++ RI (11 ∷ [])) ∷
    (76 ∷ 69 ∷ []) ∷
    ED (LE (192 ∷ []) ++ RI (97 ∷ 35 ∷ [])) ∷
    ED (LE (192 ∷ []) ++ RI []) ∷
    ED (PA 0 (65 ∷ []) ++ LE [] ++ RI []) ∷
    [])
    ≡ map ascii
    ("0 13 0 1\n0 4\n1 4\n" ∷
    "1 1 0 1\n" ∷
    "11 0 2 0\n" ∷
    "0 12 0 1\n0 +A/C\n" ∷
    "0 9 0 1\n0  \n" ∷
    "22 0 3 0\n" ∷
    [])
unfolding set_after may_end judge enter offer take_next search trimmed strike put_before open_moves child_by children question search_from texts_of acceptor marked pattern_record side_record read_end marked_side next_is code edition_front read_by strays_of read_sheet room_of searched standing value_record records clash count_of how_of acceptor_over searched_over concluded decision table sheet_edition printed_decision printed_decided
sheets_decided_printed = refl
