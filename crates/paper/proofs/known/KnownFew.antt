-- What an edit of a definition meets: known sheets, searches, sayings and meanings, few of each kind and small, so that every edit of `paper` is
-- refused by what stands here or by a law beside it. The checker computes them. The theorems stand in `paper_laws`, all other known sheets in
-- `paper_vectors` (`Known`), since each edit of `paper` pays for what is checked here.
use Prim.Native.Nat.{ℕ, suc}
use native.Mathlib.Omega.{arith}
use mathlib.Core.Path.{◌≡◌, refl}
use mathlib.Core.Bool.{cond}
use mathlib.Core.List.{List, [], ◌∷◌, ◌++◌, map}
use lib.Dec.{eqb}
use lib.ListN.{replicate}
use Rattle.paper.specs.Numbers.{longest_text, most_room}
use Rattle.paper.specs.Equation.{chr, fld}
use Rattle.paper.specs.Pattern.{char, range, leaf, many, some_text, pattern, Holds}
use Rattle.paper.specs.Places.{set_after, may_end, reachable_sets}
use Rattle.paper.specs.Written.{judge}
use Rattle.paper.specs.Search.{Child, long, child, too_long, enter, offer, take_next, search, how, count}
use Rattle.paper.specs.Situation.{trimmed, strike, put_before, open_moves, child_by, children, question}
use Rattle.paper.specs.Way.{search_from, texts_of}
use Rattle.paper.specs.Children.{two_more}
use Rattle.paper.specs.Question.{Question, Solution, acceptor}
use Rattle.paper.specs.Alphabet.{edition_1, code_39, code, codes, byte_of}
use Rattle.paper.specs.Sheet.{Mark, stray_pattern, faulty, marked, pattern_record, side_record, read_end, marked_side, next_is, edition_front, strays_of, read_by, read_sheet}
use Rattle.paper.specs.Rule.{rule_front, read_rule_before, read_rule}
use Rattle.paper.specs.Outcome.{outcome, room_of, searched, standing, value_record, records, clash, count_of, how_of}
use Rattle.paper.specs.Saying.{patterns_saying, side_saying, sheet_laid, sheet_saying}
use Rattle.paper.specs.Demands.{bound_of}
use Rattle.paper.proofs.base.Tests.{true_false}
use Rattle.paper.proofs.known.KnownSheet.{Known, answer_row, fault_row, got, wanted, ED_2, PA, LE, RI, VA, x, y, A, B, space, sheet_S}

-- a pattern of a field that stands in neither side: only judged
abbrev pub judged_only : List ℕ → List ℕ
judged_only p = PA 0 p ++ LE [] ++ RI []

-- n + 1 leaves, the operator n times in front
abbrev pub leaves_by : ℕ → ℕ → List ℕ
leaves_by operator n = replicate n operator ++ 0 ∷ replicate n 0

abbrev few_sheets : List Known
few_sheets =
    -- a byte that is no token, behind one
    fault_row (LE (A ∷ 43 ∷ [])) 17 4 ∷
    -- both sides empty, a byte less than one situation
    answer_row (LE [] ++ RI []) 183 20 18 0 [] ∷
    -- 64 leaves
    fault_row (judged_only (leaves_by 66 63)) 16 130 ∷
    -- an edition byte other than 2
    fault_row (69 ∷ 68 ∷ 1 ∷ []) 44 2 ∷
    -- behind `ED` the last character, the tokens of the fields 0 and 7, and the first that is none
    fault_row (ED_2 ++ LE (127 ∷ 192 ∷ 199 ∷ 200 ∷ [])) 17 9 ∷
    -- behind `ED` a label that is one space, and the empty side
    answer_row (ED_2 ++ LE (32 ∷ []) ++ RI []) 1150 20 0 6 [] ∷
    -- two stray patterns; one, and a byte that is no token in the right side; one, and a byte behind `RI`
    fault_row (PA 0 (A ∷ []) ++ PA 1 (A ∷ []) ++ LE [] ++ RI []) 22 0 ∷
    fault_row (PA 0 (A ∷ []) ++ LE [] ++ RI (43 ∷ [])) 17 11 ∷
    fault_row (judged_only (A ∷ []) ++ 0 ∷ []) 12 11 ∷
    -- the edition byte is missing; a pattern record without its length byte; a mark that is missing behind 260 bytes
    fault_row (69 ∷ 68 ∷ []) 11 2 ∷
    fault_row (80 ∷ 65 ∷ 9 ∷ []) 11 3 ∷
    fault_row (PA 0 (replicate 191 68 ++ A ∷ []) ++ PA 1 (replicate 59 68 ++ A ∷ [])) 11 260 ∷
    -- a length byte above 24
    fault_row (76 ∷ 69 ∷ 25 ∷ []) 14 2 ∷
    -- a wrong lo; a byte left over, behind 64 leaves too; 192 bytes that are no whole pattern
    fault_row (PA 0 (65 ∷ 44 ∷ 0 ∷ [])) 15 5 ∷
    fault_row (PA 0 (A ∷ A ∷ [])) 15 5 ∷
    fault_row (PA 0 (leaves_by 66 63 ++ A ∷ [])) 15 131 ∷
    fault_row (PA 0 (replicate 192 68)) 15 196 ∷
    -- both sides empty, all that is lent just enough; the same behind two equal characters
    answer_row (LE [] ++ RI []) 920 0 0 5 [] ∷
    answer_row (LE (A ∷ A ∷ []) ++ RI (A ∷ A ∷ [])) 920 0 0 5 [] ∷
    -- `A` and `B`; `A` and the empty side; x, which is `A`, and the empty side: no clash
    answer_row (LE (A ∷ []) ++ RI (B ∷ [])) 184 0 1 1 [] ∷
    answer_row (LE (A ∷ []) ++ RI []) 184 0 1 1 [] ∷
    answer_row (PA 0 (A ∷ []) ++ LE (x ∷ []) ++ RI []) 368 0 1 2 [] ∷
    -- x, open, and the empty side; the last character and `A`, and x; xx and `AA`
    answer_row (LE (x ∷ []) ++ RI []) 1656 6 0 9 (VA 0 (space ∷ [])) ∷
    answer_row (LE (42 ∷ A ∷ []) ++ RI (x ∷ [])) 2208 7 0 12 (VA 0 (42 ∷ A ∷ [])) ∷
    answer_row (LE (x ∷ x ∷ []) ++ RI (A ∷ A ∷ [])) 2024 6 0 11 (VA 0 (A ∷ [])) ∷
    -- x, `A` or `AA`, and y, any number of `A`: x is gone by two ways
    answer_row (PA 0 (67 ∷ A ∷ 66 ∷ A ∷ A ∷ []) ++ PA 1 (68 ∷ A ∷ []) ++ LE (x ∷ []) ++ RI (y ∷ [])) 2944 12 0 16 (VA 0 (A ∷ []) ++ VA 1 (A ∷ [])) ∷
    -- behind `ED` the characters 64 and 127, in a pattern too
    answer_row (ED_2 ++ PA 0 (194 ∷ 64 ∷ 127 ∷ []) ++ LE (192 ∷ []) ++ RI (64 ∷ 127 ∷ [])) 1656 7 0 9 (VA 0 (64 ∷ 127 ∷ [])) ∷
    []

pub few_sheets_met : map got few_sheets ≡ map wanted few_sheets
unfolding set_after may_end judge enter offer take_next search trimmed strike put_before open_moves child_by children question search_from texts_of acceptor marked pattern_record side_record read_end marked_side next_is code edition_front read_by strays_of read_sheet outcome room_of searched standing value_record records clash count_of how_of
few_sheets_met = refl

-- A rule whose stray pattern is of field 4: 22, and not 31.
pub few_rules_met : read_rule (82 ∷ 85 ∷ PA 4 (A ∷ []) ++ LE []) ≡ faulty stray_pattern 2
unfolding judge marked pattern_record side_record marked_side next_is code rule_front read_rule_before strays_of read_rule
few_rules_met = refl

-- The last of the eight bytes from 64 on, and the next one, which says nothing.
pub ninth_known : codes edition_1 (71 ∷ 72 ∷ []) ≡ 199 ∷ 255 ∷ []
unfolding code
ninth_known = refl

-- A search of numbers: 0 has the children 1 and 2, 1 has 3, 2 has 4, which is the finished one, and 3 has a side that is too long.
abbrev few_children : ℕ → List (Child ℕ ℕ)
few_children n =
    cond (eqb n 0) (child 0 1 ∷ child 0 2 ∷ [])
    (cond (eqb n 1) (child 0 3 ∷ []) (cond (eqb n 2) (child 0 4 ∷ []) (long ∷ [])))

-- "Situations are taken in the order of entry", in a large room too.
pub order_known : count (search eqb (eqb 4) few_children 400 0) ≡ 5
unfolding enter offer take_next search
order_known = refl

-- "a side above 48 tokens gives 19", in a full room too.
pub long_known : how (search eqb (eqb 4) few_children 1 3) ≡ too_long
unfolding enter offer take_next search
long_known = refl

-- the question of the sheet S
abbrev question_S : Question
question_S =
    record {
      alphabet = code_39;
      left = fld 0 ∷ [];
      right = fld 1 ∷ [];
      held = pattern (many (leaf (range 0 9))) ∷ pattern (leaf (char 4)) ∷ [];
    }

-- It is said by the sheet S, as a whole and record by record.
pub saying_known : sheet_saying question_S ≡ sheet_S
unfolding byte_of sheet_laid sheet_saying
saying_known = refl

pub records_known : patterns_saying edition_1 0 question_S.held ++ side_saying edition_1 Mark.LE question_S.left ++ side_saying edition_1 Mark.RI question_S.right ≡ sheet_S
unfolding byte_of
records_known = refl

-- x, open, and the empty side: demand 3 bounds the count by 15, (1 + 2 + 2) times (1 + 2).
pub bound_known : bound_of (record { alphabet = code_39; left = fld 0 ∷ []; right = []; held = [] }) ≡ 15
unfolding set_after reachable_sets search take_next enter offer
bound_known = refl

-- "two more where two different fields stood in front"
pub two_more_known : two_more (fld 0 ∷ []) (fld 1 ∷ []) ≡ 2
two_more_known = refl

-- A way has one step less than the room has situations, so no text is longer.
pub longest_known : suc longest_text ≡ most_room
longest_known = refl

-- "Two labels are now the same when they are equal after trailing spaces are dropped": a space and the empty side have a solution.
pub space_solved : Solution (record { alphabet = code_39; left = chr 38 ∷ []; right = []; held = [] }) (λ (f : ℕ). [])
space_solved = record { same_label = refl; over = λ f stands. absurd (true_false stands refl); holds = λ f stands. absurd (true_false stands refl) }

-- "A field without a pattern shall now hold one character or more."
pub open_not_empty : Holds some_text [] → ⊥
open_not_empty h = omega arith
