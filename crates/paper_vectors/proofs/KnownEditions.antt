-- Known sheets of the second edition (request K10), each through the whole-outcome definition: "characters are then 0 to 127, field tokens 192 to
-- 199, hidden ones 200 and 201, and pattern codes 192 to 196 stand for 64 to 68; a range's ends go to 127, and the hidden space is 32". One proof over
-- one list; the checker computes it. A sheet that says the same as one of `Known` in the other edition's bytes has the same count: a hidden field takes
-- its edition's space alone.
--
-- Some rows more stand in `paper`, where an edit needs them (`KnownFew`); rules with `ED` in `KnownCatalogue`.
use Prim.Native.Nat.{ℕ}
use mathlib.Core.Path.{◌≡◌, refl}
use mathlib.Core.List.{List, [], ◌∷◌, ◌++◌, map}
use Rattle.paper.specs.Places.{set_after, may_end}
use Rattle.paper.specs.Written.{judge}
use Rattle.paper.specs.Search.{enter, offer, take_next, search}
use Rattle.paper.specs.Situation.{trimmed, strike, put_before, open_moves, child_by, children, question}
use Rattle.paper.specs.Way.{search_from, texts_of}
use Rattle.paper.specs.Question.{acceptor}
use Rattle.paper.specs.Alphabet.{code}
use Rattle.paper.specs.Sheet.{marked, pattern_record, side_record, read_end, marked_side, next_is, edition_front, strays_of, read_by, read_sheet}
use Rattle.paper.specs.Outcome.{outcome, room_of, searched, standing, value_record, records, clash, count_of, how_of}
use Rattle.paper.proofs.known.KnownSheet.{Known, answer_row, fault_row, got, wanted, ED_2, PA, LE, RI, VA}
use Rattle.paper.proofs.known.KnownFew.{judged_only}

-- field 0, two letters, the space
abbrev x : ℕ
x = 192

abbrev A : ℕ
A = 65

abbrev B : ℕ
B = 66

abbrev space : ℕ
space = 32

-- "11 for the missing byte, then 44 for an edition byte other than 2, its place that byte"; where `ED` may stand
abbrev known_marks : List Known
known_marks =
    -- half of the mark alone
    fault_row (69 ∷ []) 11 1 ∷
    -- other bytes than 2, with nothing behind them and with all of a sheet
    fault_row (69 ∷ 68 ∷ 0 ∷ []) 44 2 ∷
    fault_row (69 ∷ 68 ∷ 1 ∷ LE [] ++ RI []) 44 2 ∷
    fault_row (69 ∷ 68 ∷ 3 ∷ LE [] ++ RI []) 44 2 ∷
    -- 44 before all that is at fault behind it
    fault_row (69 ∷ 68 ∷ 1 ∷ RI []) 44 2 ∷
    -- nothing behind the record; places are counted from the sheet's start
    fault_row ED_2 11 3 ∷
    fault_row (ED_2 ++ RI []) 12 3 ∷
    -- marks with one wrong letter, and with both exchanged
    fault_row (69 ∷ 69 ∷ 2 ∷ []) 12 0 ∷
    fault_row (70 ∷ 68 ∷ 2 ∷ []) 12 0 ∷
    fault_row (68 ∷ 69 ∷ 2 ∷ []) 12 0 ∷
    -- a second one; one behind a pattern, behind a side, behind both, in both editions
    fault_row (ED_2 ++ ED_2 ++ LE [] ++ RI []) 12 3 ∷
    fault_row (PA 0 (0 ∷ []) ++ ED_2 ++ LE [] ++ RI []) 12 5 ∷
    fault_row (ED_2 ++ PA 0 (0 ∷ []) ++ ED_2 ++ LE [] ++ RI []) 12 8 ∷
    fault_row (LE [] ++ ED_2 ++ RI []) 12 3 ∷
    fault_row (LE [] ++ RI [] ++ ED_2) 12 6 ∷
    []

-- "Characters are then 0 to 127, field tokens 192 to 199, hidden ones 200 and 201", which no sheet has
abbrev known_tokens : List Known
known_tokens =
    -- the empty sides; the characters 64 and 127, alike and not; those that are 01's tokens of fields
    answer_row (ED_2 ++ LE [] ++ RI []) 950 20 0 5 [] ∷
    answer_row (ED_2 ++ LE (64 ∷ 127 ∷ []) ++ RI (64 ∷ 127 ∷ [])) 950 20 0 5 [] ∷
    answer_row (ED_2 ++ LE (64 ∷ []) ++ RI (127 ∷ [])) 400 20 1 1 [] ∷
    answer_row (ED_2 ++ LE (71 ∷ []) ++ RI (A ∷ [])) 400 20 1 1 [] ∷
    -- x and the characters 127 and 0, open; field 7
    answer_row (ED_2 ++ LE (x ∷ []) ++ RI (127 ∷ [])) 2050 20 0 10 (VA 0 (127 ∷ [])) ∷
    answer_row (ED_2 ++ LE (0 ∷ 127 ∷ []) ++ RI (x ∷ [])) 2400 20 0 12 (VA 0 (0 ∷ 127 ∷ [])) ∷
    answer_row (ED_2 ++ LE (199 ∷ []) ++ RI (A ∷ [])) 2050 20 0 10 (VA 7 (A ∷ [])) ∷
    -- x one digit, x and field 1: in a side 193 is no range
    answer_row (ED_2 ++ PA 0 (193 ∷ 48 ∷ 57 ∷ []) ++ LE (x ∷ []) ++ RI (193 ∷ [])) 2800 20 0 13 (VA 0 (48 ∷ []) ++ VA 1 (48 ∷ [])) ∷
    -- the tokens of the hidden fields, on either side
    fault_row (ED_2 ++ LE (200 ∷ [])) 17 6 ∷
    fault_row (ED_2 ++ LE (A ∷ []) ++ RI (B ∷ 201 ∷ [])) 17 11 ∷
    -- bytes that are no token, alone and behind others
    fault_row (ED_2 ++ LE (128 ∷ [])) 17 6 ∷
    fault_row (ED_2 ++ LE (191 ∷ [])) 17 6 ∷
    fault_row (ED_2 ++ LE (A ∷ x ∷ 255 ∷ [])) 17 8 ∷
    -- without `ED` neither 127 nor 192 is a token
    fault_row (LE (127 ∷ [])) 17 3 ∷
    fault_row (LE (x ∷ [])) 17 3 ∷
    []

-- "the hidden space is 32"
abbrev known_spaces : List Known
known_spaces =
    -- `A` with a space and `A`, either way round; with 38 behind it they differ
    answer_row (ED_2 ++ LE (A ∷ space ∷ []) ++ RI (A ∷ [])) 1104 20 0 6 [] ∷
    answer_row (ED_2 ++ LE (A ∷ []) ++ RI (A ∷ space ∷ [])) 1104 20 0 6 [] ∷
    answer_row (ED_2 ++ LE (A ∷ 38 ∷ []) ++ RI (A ∷ [])) 400 20 1 1 [] ∷
    -- without `ED` it is the other way round
    answer_row (LE (10 ∷ space ∷ []) ++ RI (10 ∷ [])) 400 20 1 1 [] ∷
    -- x and the empty side, open: x is one space
    answer_row (ED_2 ++ LE (x ∷ []) ++ RI []) 1850 20 0 9 (VA 0 (space ∷ [])) ∷
    []

-- x with a pattern on the left, a side on the right
abbrev against : List ℕ → List ℕ → List ℕ
against p side = ED_2 ++ PA 0 p ++ LE (x ∷ []) ++ RI side

-- a pattern of a field that stands in neither side
abbrev only_judged : List ℕ → List ℕ
only_judged p = ED_2 ++ judged_only p

-- "pattern codes 192 to 196 stand for 64 to 68; a range's ends go to 127"
abbrev known_patterns : List Known
known_patterns =
    -- 64 is a character and not the empty text, which is 192
    answer_row (against (64 ∷ []) (64 ∷ [])) 1500 20 0 8 (VA 0 (64 ∷ [])) ∷
    answer_row (against (64 ∷ []) []) 400 20 1 2 [] ∷
    answer_row (against (192 ∷ []) []) 1500 20 0 7 (VA 0 []) ∷
    -- every character, against 127; 64 and 65 as ends
    answer_row (against (193 ∷ 0 ∷ 127 ∷ []) (127 ∷ [])) 1500 20 0 8 (VA 0 (127 ∷ [])) ∷
    answer_row (against (193 ∷ 64 ∷ 65 ∷ []) (65 ∷ [])) 1500 20 0 8 (VA 0 (65 ∷ [])) ∷
    answer_row (against (193 ∷ 64 ∷ 65 ∷ []) (B ∷ [])) 400 20 1 1 [] ∷
    -- `A` then `B`, `A` or `B`, `A` any number of times
    answer_row (against (194 ∷ A ∷ B ∷ []) (A ∷ B ∷ [])) 1700 20 0 9 (VA 0 (A ∷ B ∷ [])) ∷
    answer_row (against (195 ∷ A ∷ B ∷ []) (B ∷ [])) 1500 20 0 8 (VA 0 (B ∷ [])) ∷
    answer_row (against (196 ∷ A ∷ []) []) 1500 20 0 7 (VA 0 []) ∷
    -- behind the characters 65 to 68 bytes are left over
    fault_row (only_judged (65 ∷ 0 ∷ 42 ∷ [])) 15 8 ∷
    fault_row (only_judged (68 ∷ 64 ∷ [])) 15 8 ∷
    -- a range with hi above 127, with lo above it, with lo above hi, with a code for hi
    fault_row (only_judged (193 ∷ 0 ∷ 128 ∷ [])) 15 9 ∷
    fault_row (only_judged (193 ∷ 128 ∷ 128 ∷ [])) 15 8 ∷
    fault_row (only_judged (193 ∷ 2 ∷ 1 ∷ [])) 15 9 ∷
    fault_row (only_judged (193 ∷ 0 ∷ 192 ∷ [])) 15 9 ∷
    -- bytes that are no code
    fault_row (only_judged (128 ∷ [])) 15 7 ∷
    fault_row (only_judged (191 ∷ [])) 15 7 ∷
    fault_row (only_judged (197 ∷ [])) 15 7 ∷
    fault_row (only_judged (255 ∷ [])) 15 7 ∷
    -- without `ED` 192 is none
    fault_row (judged_only (192 ∷ [])) 15 4 ∷
    []

-- a pattern for a field that stands in neither side (request K13)
abbrev known_strays : List Known
known_strays =
    -- one alone, and one behind a pattern whose field stands: the place is counted from the sheet's start
    fault_row (only_judged (A ∷ [])) 22 3 ∷
    fault_row (ED_2 ++ PA 0 (A ∷ []) ++ PA 1 (B ∷ []) ++ LE (x ∷ []) ++ RI []) 22 8 ∷
    -- 64 is a character, so field 0 doesn't stand
    fault_row (ED_2 ++ PA 0 (A ∷ []) ++ LE (64 ∷ []) ++ RI []) 22 3 ∷
    -- a byte that is no token; bytes behind `RI`
    fault_row (ED_2 ++ PA 0 (A ∷ []) ++ LE (128 ∷ []) ++ RI []) 17 11 ∷
    fault_row (only_judged (A ∷ []) ++ 0 ∷ []) 12 14 ∷
    -- the field stands in the right side alone
    answer_row (ED_2 ++ PA 0 (A ∷ []) ++ LE (A ∷ []) ++ RI (x ∷ [])) 1500 20 0 8 (VA 0 (A ∷ [])) ∷
    []

abbrev known_editions : List Known
known_editions = known_marks ++ known_tokens ++ known_spaces ++ known_patterns ++ known_strays

pub known_editions_met : map got known_editions ≡ map wanted known_editions
unfolding set_after may_end judge enter offer take_next search trimmed strike put_before open_moves child_by children question search_from texts_of acceptor marked pattern_record side_record read_end marked_side next_is code edition_front read_by strays_of read_sheet outcome room_of searched standing value_record records clash count_of how_of
known_editions_met = refl
