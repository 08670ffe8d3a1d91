-- The whole decision of known sheets: such as each of the attempts decides, and such as none decides. The checker computes them.
--
-- A row's room is small, so that 01's search of it ends with no room or a side too long. The row of the fifth attempt stands in `paper_decide`
-- (`KnownDecision`).
use Prim.Native.Nat.{ℕ}
use mathlib.Core.Path.{◌≡◌, refl}
use mathlib.Core.List.{List, [], ◌∷◌, ◌++◌, map}
use lib.ListN.{replicate}
use Rattle.paper.specs.Places.{set_after, may_end}
use Rattle.paper.specs.Written.{judge}
use Rattle.paper.specs.Search.{enter, offer, take_next, search}
use Rattle.paper.specs.Situation.{trimmed, strike, put_before, open_moves, child_by, children, question}
use Rattle.paper.specs.Way.{search_from, texts_of}
use Rattle.paper.specs.Alphabet.{code}
use Rattle.paper.specs.Question.{acceptor}
use Rattle.paper.specs.Sheet.{marked, pattern_record, side_record, read_end, marked_side, next_is, edition_front, strays_of, read_by, read_sheet}
use Rattle.paper.specs.Outcome.{room_of, searched, standing, value_record, records, clash, count_of, how_of}
use Rattle.paper.proofs.known.KnownSheet.{PA, LE, RI, x, y, A, B}
use Rattle.paper_chosen.specs.Chosen.{acceptor_over, searched_over}
use Rattle.paper_decide.specs.Alike.{alike_in, fixed, fields_standing, alike, is_least, least_ones}
use Rattle.paper_decide.specs.Few.{leaf_choice, chosen_for, few, is_few}
use Rattle.paper_decide.specs.Letters.{divisor, uneven, letters_differ}
use Rattle.paper_decide.specs.OneText.{with_texts}
use Rattle.paper_plain.specs.Standing.{next_pairs, pairs_searched}
use Rattle.paper_plain.specs.Engine.{bits_of, clashes_apart}
use Rattle.paper_decide.specs.Deciding.{concluded, decision}
use Rattle.paper_decide.proofs.KnownDecision.{Known, row, got, wanted}

-- digits, any number of them
abbrev digits : List ℕ
digits = 68 ∷ 65 ∷ 0 ∷ 9 ∷ []

-- one of A to G, or 000
abbrev one_or_three : List ℕ
one_or_three = 67 ∷ 65 ∷ 10 ∷ 16 ∷ 66 ∷ 0 ∷ 66 ∷ 0 ∷ 0 ∷ []

abbrev rows : List Known
rows =
    -- 1, 01's search: `A` and `B`; x and `A`, open.
    row (LE (A ∷ []) ++ RI (B ∷ [])) 1 8 1 1 [] 1 ∷
    row (LE (x ∷ []) ++ RI (A ∷ [])) 12 8 0 10 (86 ∷ 65 ∷ 0 ∷ 1 ∷ 0 ∷ A ∷ []) 1 ∷
    -- 2, letters: x4 and xx, where x is 10 to 16: there is no 4 on the right. `A` and x4x: nor on the left.
    row (PA 0 (65 ∷ 10 ∷ 16 ∷ []) ++ LE (x ∷ 4 ∷ []) ++ RI (x ∷ x ∷ [])) 2 8 1 2 [] 2 ∷
    row (LE (A ∷ []) ++ RI (x ∷ 4 ∷ x ∷ [])) 6 8 1 6 [] 2 ∷
    -- 3, each standing apart: x and y are digits, xAB and yBA. Then 676 bits, more than the bytes of one situation.
    row (PA 0 (65 ∷ 0 ∷ 9 ∷ []) ++ PA 1 (65 ∷ 0 ∷ 9 ∷ []) ++ LE (x ∷ A ∷ B ∷ []) ++ RI (y ∷ B ∷ A ∷ [])) 1 8 1 1 [] 3 ∷
    row (PA 0 (65 ∷ 0 ∷ 9 ∷ []) ++ PA 1 (65 ∷ 0 ∷ 9 ∷ []) ++ LE ((x ∷ A ∷ []) ++ replicate 20 B) ++ RI ((y ∷ []) ++ replicate 20 B ++ (A ∷ []))) 1 8 1 1 [] 3 ∷
    -- 2401 bits are too many for one situation and fit into two: x and y any number of digits, xAB and yBA with 21 more of each behind.
    row (PA 0 digits ++ PA 1 digits ++ LE (x ∷ A ∷ B ∷ replicate 21 x) ++ RI (y ∷ B ∷ A ∷ replicate 21 y)) 1 8 18 5 [] 0 ∷
    row (PA 0 digits ++ PA 1 digits ++ LE (x ∷ A ∷ B ∷ replicate 21 x) ++ RI (y ∷ B ∷ A ∷ replicate 21 y)) 2 8 1 2 [] 3 ∷
    -- 4, the shortest text: xx and xx, where x is 0 to 6 or 0 to 2; the same with a short answer buffer.
    row (PA 0 (67 ∷ 65 ∷ 0 ∷ 6 ∷ 65 ∷ 0 ∷ 2 ∷ []) ++ LE (x ∷ x ∷ []) ++ RI (x ∷ x ∷ [])) 7 8 0 14 (86 ∷ 65 ∷ 0 ∷ 1 ∷ 0 ∷ 0 ∷ []) 4 ∷
    row (PA 0 (67 ∷ 65 ∷ 0 ∷ 6 ∷ 65 ∷ 0 ∷ 2 ∷ []) ++ LE (x ∷ x ∷ []) ++ RI (x ∷ x ∷ [])) 7 5 20 14 [] 4 ∷
    -- 6, characters alike: x is A to G, or 000. xB and xx: x is B. xBx and yxA, y is A to G: apart they clash, and yet there is no label.
    row (PA 0 one_or_three ++ LE (x ∷ B ∷ []) ++ RI (x ∷ x ∷ [])) 11 8 0 28 (86 ∷ 65 ∷ 0 ∷ 1 ∷ 0 ∷ B ∷ []) 6 ∷
    row (PA 0 one_or_three ++ PA 1 (65 ∷ 10 ∷ 16 ∷ []) ++ LE (x ∷ B ∷ x ∷ []) ++ RI (y ∷ x ∷ A ∷ [])) 10 8 1 25 [] 6 ∷
    -- 7, few characters: x0 and 0, where x is any number of 0 to 6.
    row (PA 0 (68 ∷ 65 ∷ 0 ∷ 6 ∷ []) ++ LE (x ∷ 0 ∷ []) ++ RI (0 ∷ [])) 8 8 0 38 (86 ∷ 65 ∷ 0 ∷ 0 ∷ 0 ∷ []) 7 ∷
    -- None: `AA` and x, where the seventh uses all up, and yet there is a label; 23 times x and y, and `AA`, where a side grows too long; no room.
    row (LE (A ∷ A ∷ []) ++ RI (x ∷ [])) 3 8 18 13 [] 0 ∷
    row (LE (replicate 23 x ++ (y ∷ [])) ++ RI (A ∷ A ∷ [])) 3 8 19 9 [] 0 ∷
    row (LE (x ∷ []) ++ RI (A ∷ [])) 0 8 18 0 [] 0 ∷
    []

pub known_decisions : map got rows ≡ map wanted rows
unfolding set_after may_end judge enter offer take_next search trimmed strike put_before open_moves child_by children question search_from texts_of acceptor marked pattern_record side_record read_end marked_side next_is code edition_front read_by strays_of read_sheet room_of searched standing value_record records clash count_of how_of acceptor_over searched_over alike_in fixed fields_standing alike is_least least_ones leaf_choice chosen_for few is_few divisor uneven letters_differ next_pairs pairs_searched bits_of clashes_apart with_texts concluded decision
known_decisions = refl
