-- Known sheets through the whole-outcome definition: those marked * in document 01, and one for each way to go wrong by one. One proof over
-- one list; the checker computes it. Each row fixes the whole outcome: number, count, place, bytes written, both buffers afterwards. The counts
-- are those of the search with the hidden fields (request K3), and a field without a pattern holds one character or more (request K5).
--
-- The buffers are lent full of other bytes. Where 01 says nothing else it lends 356 situations; a row here lends a few more than are entered,
-- since a larger room gives the same (`Searched.larger_room`), and most working buffers have bytes behind the last whole situation.
--
-- Some rows more stand in `paper`, where an edit needs them (`KnownFew`).
use Prim.Native.Nat.{ℕ, zero, suc}
use mathlib.Core.Path.{◌≡◌, refl}
use mathlib.Core.List.{List, [], ◌∷◌, ◌++◌, map}
use lib.ListN.{replicate}
use Rattle.paper.specs.Lists.{upto}
use Rattle.paper.specs.Places.{set_after, may_end}
use Rattle.paper.specs.Written.{judge}
use Rattle.paper.specs.Search.{enter, offer, take_next, search}
use Rattle.paper.specs.Situation.{trimmed, strike, put_before, open_moves, child_by, children, question}
use Rattle.paper.specs.Way.{search_from, texts_of}
use Rattle.paper.specs.Question.{acceptor}
use Rattle.paper.specs.Alphabet.{code}
use Rattle.paper.specs.Sheet.{marked, pattern_record, side_record, read_end, marked_side, next_is, edition_front, strays_of, read_by, read_sheet}
use Rattle.paper.specs.Outcome.{outcome, room_of, searched, standing, value_record, records, clash, count_of, how_of}
use Rattle.paper.proofs.known.KnownSheet.{Known, answer_row, fault_row, got, wanted, PA, LE, RI, VA, x, y, A, B, space, sheet_S, answer_S}
use Rattle.paper.proofs.known.KnownFew.{judged_only, leaves_by}

-- the old meaning of a field without a pattern, written out: any number of characters
abbrev written_out : List ℕ
written_out = 68 ∷ 65 ∷ 0 ∷ 42 ∷ []

-- those of 01's table but one, which needs all its 356 situations
abbrev known_in_01 : List Known
known_in_01 =
    -- both sides empty
    answer_row (LE [] ++ RI []) 1150 20 0 5 [] ∷
    -- `A` and `B`
    answer_row (LE (A ∷ []) ++ RI (B ∷ [])) 400 20 1 1 [] ∷
    -- x and `A`, open
    answer_row (LE (x ∷ []) ++ RI (A ∷ [])) 2250 20 0 10 (VA 0 (A ∷ [])) ∷
    -- xA and Bx, open
    answer_row (LE (x ∷ A ∷ []) ++ RI (B ∷ x ∷ [])) 750 20 1 2 [] ∷
    -- the same, x with pattern 68 65 0 42
    answer_row (PA 0 written_out ++ LE (x ∷ A ∷ []) ++ RI (B ∷ x ∷ [])) 750 20 1 2 [] ∷
    -- xx and `AA`, open
    answer_row (LE (x ∷ x ∷ []) ++ RI (A ∷ A ∷ [])) 2400 20 0 11 (VA 0 (A ∷ [])) ∷
    -- xx and `A`, open, room 20: no label exists, but x takes one space after the other (with room 356 the program `test_sheets` has it: 19)
    answer_row (LE (x ∷ x ∷ []) ++ RI (A ∷ [])) 3680 20 18 20 [] ∷
    -- `AB`x`B` and x`B`y, open
    answer_row (LE (A ∷ B ∷ x ∷ B ∷ []) ++ RI (x ∷ B ∷ y ∷ [])) 2950 20 0 15 (VA 0 (A ∷ []) ++ VA 1 (A ∷ B ∷ [])) ∷
    -- 24 times x and `AA`, open, room 2, then 3
    answer_row (LE (replicate 24 x) ++ RI (A ∷ A ∷ [])) 368 20 18 2 [] ∷
    answer_row (LE (replicate 24 x) ++ RI (A ∷ A ∷ [])) 552 20 19 3 [] ∷
    -- xA and Bx, open, no room
    answer_row (LE (x ∷ A ∷ []) ++ RI (B ∷ x ∷ [])) 0 20 18 0 [] ∷
    -- sheet S
    answer_row sheet_S 2400 20 0 13 answer_S ∷
    -- sheet S, an answer buffer of 11 bytes
    answer_row sheet_S 2400 11 20 13 [] ∷
    -- sheet S, room 12
    answer_row sheet_S 2208 20 18 12 [] ∷
    -- empty sheet
    fault_row [] 11 0 ∷
    -- both sides empty and one more byte
    fault_row (LE [] ++ RI [] ++ 0 ∷ []) 12 6 ∷
    []

-- "Room is one situation for each whole 184 bytes"; what the buffers hold
abbrev known_rooms : List Known
known_rooms =
    -- sheet S in 13 situations, to the byte
    answer_row sheet_S 2392 20 0 13 answer_S ∷
    -- sheet S, a byte less
    answer_row sheet_S 2391 20 18 12 [] ∷
    -- both sides empty in five situations, to the byte
    answer_row (LE [] ++ RI []) 920 20 0 5 [] ∷
    -- both sides empty, a byte less
    answer_row (LE [] ++ RI []) 919 20 18 4 [] ∷
    -- both sides empty in one situation, to the byte: it is entered, and its first child is not
    answer_row (LE [] ++ RI []) 184 20 18 1 [] ∷
    -- `A` and `B` in one situation, to the byte: it is taken, and none waits
    answer_row (LE (A ∷ []) ++ RI (B ∷ [])) 184 20 1 1 [] ∷
    -- xA and Bx, x with pattern 68 65 0 42, in two situations, to the byte: the child of the second is entered already
    answer_row (PA 0 written_out ++ LE (x ∷ A ∷ []) ++ RI (B ∷ x ∷ [])) 368 20 1 2 [] ∷
    -- both sides empty, no answer buffer
    answer_row (LE [] ++ RI []) 950 0 0 5 [] ∷
    -- sheet S, an answer buffer of 12 bytes
    answer_row sheet_S 2400 12 0 13 answer_S ∷
    -- sheet S, an answer buffer of 13 bytes
    answer_row sheet_S 2400 13 0 13 answer_S ∷
    -- 24 times x and `AA`, open, three situations and a rest
    answer_row (LE (replicate 24 x) ++ RI (A ∷ A ∷ [])) 600 20 19 3 [] ∷
    []

-- any number of `A`
abbrev As : List ℕ
As = 68 ∷ A ∷ []

-- the order of the search and its limit of 48 tokens, the hidden field among them
abbrev known_searches : List Known
known_searches =
    -- `B` and xy, open: what was entered first is taken first
    answer_row (LE (B ∷ []) ++ RI (x ∷ y ∷ [])) 2950 20 0 14 (VA 0 (B ∷ []) ++ VA 1 (space ∷ [])) ∷
    -- x`AAA` and y`AA`, open: the left front is struck first
    answer_row (LE (x ∷ A ∷ A ∷ A ∷ []) ++ RI (y ∷ A ∷ A ∷ [])) 3900 20 0 20 (VA 0 (0 ∷ []) ++ VA 1 (0 ∷ A ∷ [])) ∷
    -- x one digit, x and y: the lowest character is put first
    answer_row (PA 0 (65 ∷ 0 ∷ 9 ∷ []) ++ LE (x ∷ []) ++ RI (y ∷ [])) 2800 20 0 13 (VA 0 (0 ∷ []) ++ VA 1 (0 ∷ [])) ∷
    -- x and x, open, then with the pattern `A`: equal fields in front are not dropped, and c is put once
    answer_row (LE (x ∷ []) ++ RI (x ∷ [])) 1500 20 0 7 (VA 0 (0 ∷ [])) ∷
    answer_row (PA 0 (A ∷ []) ++ LE (x ∷ []) ++ RI (x ∷ [])) 1300 20 0 7 (VA 0 (A ∷ [])) ∷
    -- x any number of `A`, x and xy`B`: the set of a field that is gone is not kept
    answer_row (PA 0 As ++ LE (x ∷ []) ++ RI (x ∷ y ∷ B ∷ [])) 1300 20 1 7 [] ∷
    -- x any number of `A`. 16 times x, `B` and `AA`: a left side of 48 tokens
    answer_row (PA 0 As ++ LE (replicate 16 x ++ B ∷ []) ++ RI (A ∷ A ∷ [])) 1150 20 1 6 [] ∷
    -- 16 times x, `BB` and `AA`: a left side of 49 tokens
    answer_row (PA 0 As ++ LE (replicate 16 x ++ B ∷ B ∷ []) ++ RI (A ∷ A ∷ [])) 1150 20 19 3 [] ∷
    -- 24 times x and `A`, then turned round: a side of 24 tokens begins with 25 and comes to 48
    answer_row (PA 0 As ++ LE (replicate 24 x) ++ RI (A ∷ [])) 950 20 1 5 [] ∷
    answer_row (PA 0 As ++ LE (A ∷ []) ++ RI (replicate 24 x)) 950 20 1 5 [] ∷
    -- 16 times x, `B` and `AAA`: a left side of 48 tokens and a right side of two
    answer_row (PA 0 As ++ LE (replicate 16 x ++ B ∷ []) ++ RI (A ∷ A ∷ A ∷ [])) 1150 20 19 5 [] ∷
    -- `AA` and 16 times x, `B`: a right side of 48 tokens
    answer_row (PA 0 As ++ LE (A ∷ A ∷ []) ++ RI (replicate 16 x ++ B ∷ [])) 1150 20 1 6 [] ∷
    -- `AA` and 16 times x, `BB`: a right side of 49 tokens
    answer_row (PA 0 As ++ LE (A ∷ A ∷ []) ++ RI (replicate 16 x ++ B ∷ B ∷ [])) 1150 20 19 3 [] ∷
    []

-- "A field without a pattern shall now hold one character or more."
abbrev known_open_fields : List Known
known_open_fields =
    -- x and the empty side, either way round: x is one space
    answer_row (LE (x ∷ []) ++ RI []) 1850 20 0 9 (VA 0 (space ∷ [])) ∷
    answer_row (LE [] ++ RI (x ∷ [])) 1850 20 0 9 (VA 0 (space ∷ [])) ∷
    -- x`A` and `A`, either way round: no label is both, for x may not be struck at its start
    answer_row (LE (x ∷ A ∷ []) ++ RI (A ∷ [])) 1300 20 1 6 [] ∷
    answer_row (LE (A ∷ []) ++ RI (x ∷ A ∷ [])) 1300 20 1 6 [] ∷
    -- x`A` and `A`x: x is not nothing
    answer_row (LE (x ∷ A ∷ []) ++ RI (A ∷ x ∷ [])) 1500 20 0 7 (VA 0 (A ∷ [])) ∷
    -- "Sheets .. that relied on the old meaning must carry 68 65 0 42 written out": x is struck to nothing
    answer_row (PA 0 written_out ++ LE (x ∷ []) ++ RI []) 2050 20 0 10 (VA 0 []) ∷
    answer_row (PA 0 written_out ++ LE (x ∷ A ∷ []) ++ RI (A ∷ [])) 2050 20 0 10 (VA 0 []) ∷
    -- `B` and xy, both written out: the one that is met first is struck first
    answer_row (PA 0 written_out ++ PA 1 written_out ++ LE (B ∷ []) ++ RI (x ∷ y ∷ [])) 3700 20 0 18 (VA 0 [] ++ VA 1 (B ∷ [])) ∷
    -- x`B` and `AB`, x`B` and `AAB`: one character, and more than one
    answer_row (LE (x ∷ B ∷ []) ++ RI (A ∷ B ∷ [])) 2250 20 0 11 (VA 0 (A ∷ [])) ∷
    answer_row (LE (x ∷ B ∷ []) ++ RI (A ∷ A ∷ B ∷ [])) 2400 20 0 12 (VA 0 (A ∷ A ∷ [])) ∷
    -- xy`B` and `AB`, then `AAB`: each of two fields takes a character
    answer_row (LE (x ∷ y ∷ B ∷ []) ++ RI (A ∷ B ∷ [])) 2800 20 1 14 [] ∷
    answer_row (LE (x ∷ y ∷ B ∷ []) ++ RI (A ∷ A ∷ B ∷ [])) 4050 20 0 21 (VA 0 (A ∷ []) ++ VA 1 (A ∷ [])) ∷
    -- "two reachable place sets": x`A` and x`B` enter two situations; by a pattern with the same texts and three sets they enter three
    answer_row (LE (x ∷ A ∷ []) ++ RI (x ∷ B ∷ [])) 750 20 1 2 [] ∷
    answer_row (PA 0 (66 ∷ 65 ∷ 0 ∷ 42 ∷ written_out) ++ LE (x ∷ A ∷ []) ++ RI (x ∷ B ∷ [])) 750 20 1 3 [] ∷
    -- the first and the last character are taken; field 7 is open too, and so is a field beside one with a pattern
    answer_row (LE (x ∷ []) ++ RI (0 ∷ 42 ∷ [])) 2400 20 0 12 (VA 0 (0 ∷ 42 ∷ [])) ∷
    answer_row (LE (71 ∷ []) ++ RI (A ∷ [])) 2050 20 0 10 (VA 7 (A ∷ [])) ∷
    answer_row (PA 0 (A ∷ []) ++ LE (x ∷ y ∷ []) ++ RI (A ∷ B ∷ [])) 2400 20 0 12 (VA 0 (A ∷ []) ++ VA 1 (B ∷ [])) ∷
    []

-- `LT4` and so many spaces
abbrev LT4 : ℕ → List ℕ
LT4 n = 21 ∷ 29 ∷ 4 ∷ replicate n space

-- `A` with one space or none behind it
abbrev A_or_A_space : List ℕ
A_or_A_space = 67 ∷ A ∷ 66 ∷ A ∷ space ∷ []

-- "Two labels are now the same when they are equal after trailing spaces are dropped"
abbrev known_spaces : List Known
known_spaces =
    -- `LT4` and `LT4` with a space, in six situations to the byte, a byte less; the space on the left
    answer_row (LE (LT4 0) ++ RI (LT4 1)) 1104 20 0 6 [] ∷
    answer_row (LE (LT4 0) ++ RI (LT4 1)) 1103 20 18 5 [] ∷
    answer_row (LE (LT4 1) ++ RI (LT4 0)) 1104 20 0 6 [] ∷
    -- spaces on both sides: as many, more on the right, more on the left
    answer_row (LE (LT4 1) ++ RI (LT4 1)) 950 20 0 5 [] ∷
    answer_row (LE (LT4 1) ++ RI (LT4 3)) 1500 20 0 7 [] ∷
    answer_row (LE (LT4 2) ++ RI (LT4 1)) 1150 20 0 6 [] ∷
    -- a side of 23 tokens and one of 24 with a space at its end
    answer_row (LE (replicate 23 A) ++ RI (replicate 23 A ++ space ∷ [])) 1150 20 0 6 [] ∷
    -- a label that is all spaces and the empty side, either way round; two labels that are all spaces
    answer_row (LE (space ∷ space ∷ []) ++ RI []) 1500 20 0 7 [] ∷
    answer_row (LE [] ++ RI (space ∷ space ∷ [])) 1500 20 0 7 [] ∷
    answer_row (LE (space ∷ []) ++ RI (replicate 3 space)) 1500 20 0 7 [] ∷
    -- spaces in the middle are not dropped: one and none, two and one, one and one; nor is one in front
    answer_row (LE (A ∷ space ∷ B ∷ []) ++ RI (A ∷ B ∷ [])) 750 20 1 1 [] ∷
    answer_row (LE (A ∷ space ∷ space ∷ B ∷ []) ++ RI (A ∷ space ∷ B ∷ [])) 750 20 1 1 [] ∷
    answer_row (LE (A ∷ space ∷ B ∷ []) ++ RI (A ∷ space ∷ B ∷ [])) 950 20 0 5 [] ∷
    answer_row (LE (space ∷ A ∷ []) ++ RI (A ∷ [])) 750 20 1 1 [] ∷
    -- nor what stands behind a space: `A B` and `A`, either way round
    answer_row (LE (A ∷ space ∷ B ∷ []) ++ RI (A ∷ [])) 750 20 1 2 [] ∷
    answer_row (LE (A ∷ []) ++ RI (A ∷ space ∷ B ∷ [])) 750 20 1 2 [] ∷
    -- labels that differ in a character before their spaces
    answer_row (LE (A ∷ space ∷ []) ++ RI (B ∷ space ∷ [])) 750 20 1 1 [] ∷
    answer_row (LE (A ∷ B ∷ space ∷ []) ++ RI (A ∷ space ∷ [])) 750 20 1 1 [] ∷
    -- the characters before and behind the space are not dropped
    answer_row (LE (A ∷ 37 ∷ []) ++ RI (A ∷ [])) 750 20 1 1 [] ∷
    answer_row (LE (A ∷ []) ++ RI (A ∷ 39 ∷ [])) 750 20 1 1 [] ∷
    -- x and `A` with a space, open, either way round: x could take the space and leaves it
    answer_row (LE (x ∷ []) ++ RI (A ∷ space ∷ [])) 2800 20 0 14 (VA 0 (A ∷ [])) ∷
    answer_row (LE (A ∷ space ∷ []) ++ RI (x ∷ [])) 2800 20 0 14 (VA 0 (A ∷ [])) ∷
    -- x any number of spaces, `A`x and `A` with a space
    answer_row (PA 0 (68 ∷ space ∷ []) ++ LE (A ∷ x ∷ []) ++ RI (A ∷ space ∷ [])) 2400 20 0 13 (VA 0 []) ∷
    -- x `A` and a space, x and `A`, either way round: x can't leave the space
    answer_row (PA 0 (66 ∷ A ∷ space ∷ []) ++ LE (x ∷ []) ++ RI (A ∷ [])) 1850 20 0 10 (VA 0 (A ∷ space ∷ [])) ∷
    answer_row (PA 0 (66 ∷ A ∷ space ∷ []) ++ LE (A ∷ []) ++ RI (x ∷ [])) 1850 20 0 10 (VA 0 (A ∷ space ∷ [])) ∷
    -- x `A` with a space or none, xx and `A A`: the space of the one x is kept, that of the other dropped
    answer_row (PA 0 A_or_A_space ++ LE (x ∷ x ∷ []) ++ RI (A ∷ space ∷ A ∷ [])) 1700 20 0 9 (VA 0 (A ∷ space ∷ [])) ∷
    -- x any number of spaces, `A`x`B` and `A` with two spaces
    answer_row (PA 0 (68 ∷ space ∷ []) ++ LE (A ∷ x ∷ B ∷ []) ++ RI (A ∷ space ∷ space ∷ [])) 1500 20 1 7 [] ∷
    []

-- x with a pattern on the left, a side on the right
abbrev against : List ℕ → List ℕ → List ℕ
against p side = PA 0 p ++ LE (x ∷ []) ++ RI side

-- n leaves that are ranges
abbrev ranges : ℕ → List ℕ
ranges zero = []
ranges (suc n) = 65 ∷ 0 ∷ 9 ∷ ranges n

-- one of the first n + 1 characters, each a leaf
abbrev one_of : ℕ → List ℕ
one_of n = replicate n 67 ++ upto (suc n)

-- "A pattern is written operator first"; 15, then 16
abbrev known_patterns : List Known
known_patterns =
    -- the empty text, against no character and against one
    answer_row (against (64 ∷ []) []) 1500 20 0 7 (VA 0 []) ∷
    answer_row (against (64 ∷ []) (A ∷ [])) 750 20 1 2 [] ∷
    -- character 42
    answer_row (against (42 ∷ []) (42 ∷ [])) 1500 20 0 8 (VA 0 (42 ∷ [])) ∷
    -- a range from 5 to 7, against 4, 5, 7 and 8
    answer_row (against (65 ∷ 5 ∷ 7 ∷ []) (4 ∷ [])) 750 20 1 1 [] ∷
    answer_row (against (65 ∷ 5 ∷ 7 ∷ []) (5 ∷ [])) 1500 20 0 8 (VA 0 (5 ∷ [])) ∷
    answer_row (against (65 ∷ 5 ∷ 7 ∷ []) (7 ∷ [])) 1500 20 0 8 (VA 0 (7 ∷ [])) ∷
    answer_row (against (65 ∷ 5 ∷ 7 ∷ []) (8 ∷ [])) 750 20 1 1 [] ∷
    -- a range of one character
    answer_row (against (65 ∷ 5 ∷ 5 ∷ []) (5 ∷ [])) 1500 20 0 8 (VA 0 (5 ∷ [])) ∷
    -- `A` then `B`
    answer_row (against (66 ∷ A ∷ B ∷ []) (A ∷ B ∷ [])) 1700 20 0 9 (VA 0 (A ∷ B ∷ [])) ∷
    answer_row (against (66 ∷ A ∷ B ∷ []) (B ∷ A ∷ [])) 750 20 1 1 [] ∷
    answer_row (against (66 ∷ A ∷ B ∷ []) (A ∷ [])) 750 20 1 3 [] ∷
    -- `A` or `B`
    answer_row (against (67 ∷ A ∷ B ∷ []) (A ∷ [])) 1500 20 0 8 (VA 0 (A ∷ [])) ∷
    answer_row (against (67 ∷ A ∷ B ∷ []) (B ∷ [])) 1500 20 0 8 (VA 0 (B ∷ [])) ∷
    answer_row (against (67 ∷ A ∷ B ∷ []) (A ∷ B ∷ [])) 750 20 1 3 [] ∷
    -- `A` any number of times
    answer_row (against (68 ∷ A ∷ []) []) 1500 20 0 7 (VA 0 []) ∷
    answer_row (against (68 ∷ A ∷ []) (A ∷ A ∷ [])) 2050 20 0 11 (VA 0 (A ∷ A ∷ [])) ∷
    -- what may be empty: both of two, the first, the second, one of two
    answer_row (against (66 ∷ 68 ∷ A ∷ 68 ∷ B ∷ []) []) 1500 20 0 7 (VA 0 []) ∷
    answer_row (against (66 ∷ 68 ∷ A ∷ B ∷ []) []) 750 20 1 2 [] ∷
    answer_row (against (66 ∷ 68 ∷ A ∷ B ∷ []) (B ∷ [])) 1500 20 0 8 (VA 0 (B ∷ [])) ∷
    answer_row (against (66 ∷ A ∷ 68 ∷ B ∷ []) []) 750 20 1 2 [] ∷
    answer_row (against (66 ∷ A ∷ 68 ∷ B ∷ []) (A ∷ [])) 1500 20 0 8 (VA 0 (A ∷ [])) ∷
    answer_row (against (67 ∷ A ∷ 64 ∷ []) []) 1500 20 0 7 (VA 0 []) ∷
    -- bytes that are no code
    fault_row (judged_only (43 ∷ [])) 15 4 ∷
    fault_row (judged_only (63 ∷ [])) 15 4 ∷
    fault_row (judged_only (69 ∷ [])) 15 4 ∷
    fault_row (judged_only (255 ∷ [])) 15 4 ∷
    -- in the first part, in the second, under a star
    fault_row (judged_only (66 ∷ 43 ∷ 44 ∷ [])) 15 5 ∷
    fault_row (judged_only (67 ∷ A ∷ 43 ∷ [])) 15 6 ∷
    fault_row (judged_only (66 ∷ 65 ∷ 0 ∷ 9 ∷ 68 ∷ 43 ∷ [])) 15 9 ∷
    -- a range without its bytes, with lo above hi, with hi above 42
    fault_row (judged_only (65 ∷ [])) 15 5 ∷
    fault_row (judged_only (65 ∷ 1 ∷ [])) 15 6 ∷
    fault_row (judged_only (65 ∷ 2 ∷ 1 ∷ [])) 15 6 ∷
    fault_row (judged_only (65 ∷ 0 ∷ 43 ∷ [])) 15 6 ∷
    -- with lo above 42: hi at fault too, hi not at fault, hi missing; lo is 42
    fault_row (judged_only (65 ∷ 43 ∷ 42 ∷ [])) 15 5 ∷
    fault_row (judged_only (65 ∷ 43 ∷ 43 ∷ [])) 15 5 ∷
    fault_row (judged_only (65 ∷ 43 ∷ [])) 15 5 ∷
    fault_row (judged_only (65 ∷ 42 ∷ [])) 15 6 ∷
    fault_row (judged_only (65 ∷ 42 ∷ 43 ∷ [])) 15 6 ∷
    -- an operator without its patterns
    fault_row (judged_only (66 ∷ [])) 15 5 ∷
    fault_row (judged_only (66 ∷ A ∷ [])) 15 6 ∷
    fault_row (judged_only (67 ∷ A ∷ [])) 15 6 ∷
    fault_row (judged_only (68 ∷ [])) 15 5 ∷
    -- bytes left over: the first of them, a code or none
    fault_row (judged_only (0 ∷ 0 ∷ [])) 15 5 ∷
    fault_row (judged_only (0 ∷ 43 ∷ 0 ∷ [])) 15 5 ∷
    fault_row (judged_only (66 ∷ 64 ∷ 65 ∷ 0 ∷ 9 ∷ 68 ∷ 0 ∷ [])) 15 9 ∷
    -- 63 leaves; neither the empty text nor a star is one
    answer_row (against (leaves_by 66 62) []) 750 20 1 2 [] ∷
    answer_row (against (66 ∷ 64 ∷ leaves_by 66 62) []) 750 20 1 2 [] ∷
    answer_row (against (68 ∷ leaves_by 67 62) []) 1500 20 0 7 (VA 0 []) ∷
    -- 64 leaves of a choice; the first a range
    fault_row (judged_only (leaves_by 67 63)) 16 130 ∷
    fault_row (judged_only (66 ∷ 65 ∷ 0 ∷ 9 ∷ leaves_by 66 62)) 16 132 ∷
    -- the 64th is not the last; it is a range, as many as there is room for; the empty text before it is no leaf
    fault_row (judged_only (leaves_by 66 80)) 16 147 ∷
    fault_row (judged_only (replicate 63 66 ++ replicate 32 0 ++ ranges 32)) 16 192 ∷
    fault_row (judged_only (66 ∷ 64 ∷ leaves_by 66 63)) 16 132 ∷
    fault_row (judged_only (68 ∷ leaves_by 67 63)) 16 131 ∷
    -- 64 leaves and a byte left over; 64 and then a byte that is no code; 64 and then no code
    fault_row (judged_only (leaves_by 66 63 ++ 0 ∷ [])) 15 131 ∷
    fault_row (judged_only (replicate 64 66 ++ replicate 64 0 ++ 43 ∷ [])) 15 132 ∷
    fault_row (judged_only (replicate 64 66 ++ replicate 64 0)) 15 132 ∷
    -- one of 40, against the 32nd of them, the last, and the character behind it
    answer_row (against (one_of 39) (31 ∷ [])) 1500 20 0 8 (VA 0 (31 ∷ [])) ∷
    answer_row (against (one_of 39) (39 ∷ [])) 1500 20 0 8 (VA 0 (39 ∷ [])) ∷
    answer_row (against (one_of 39) (40 ∷ [])) 750 20 1 1 [] ∷
    -- one of 40, then one of 23, which makes 63 leaves: places behind the 32nd follow it, and the 64th ends
    answer_row (against (66 ∷ one_of 39 ++ one_of 22) (39 ∷ 22 ∷ [])) 1700 20 0 9 (VA 0 (39 ∷ 22 ∷ [])) ∷
    answer_row (against (66 ∷ one_of 39 ++ one_of 22) (39 ∷ 23 ∷ [])) 750 20 1 2 [] ∷
    -- 192 bytes
    answer_row (against (replicate 191 68 ++ 0 ∷ []) []) 1500 20 0 7 (VA 0 []) ∷
    []

-- "Checks on the sheet": marks, fields, lengths, bodies, tokens, in 01's order
abbrev known_records : List Known
known_records =
    -- field 7
    answer_row (PA 7 (4 ∷ []) ++ LE (71 ∷ []) ++ RI (4 ∷ [])) 1500 20 0 8 (VA 7 (4 ∷ [])) ∷
    -- character 42; sides of 24 tokens
    answer_row (LE (42 ∷ []) ++ RI (42 ∷ [])) 950 20 0 5 [] ∷
    answer_row (LE (replicate 24 A) ++ RI (replicate 24 A)) 950 20 0 5 [] ∷
    -- one byte left
    fault_row (80 ∷ []) 11 1 ∷
    fault_row (PA 0 (0 ∷ []) ++ 76 ∷ []) 11 6 ∷
    fault_row (LE [] ++ 82 ∷ []) 11 4 ∷
    -- none left
    fault_row (PA 0 (0 ∷ [])) 11 5 ∷
    fault_row (LE []) 11 3 ∷
    -- marks with one wrong letter
    fault_row (81 ∷ 65 ∷ []) 12 0 ∷
    fault_row (80 ∷ 66 ∷ []) 12 0 ∷
    fault_row (77 ∷ 69 ∷ []) 12 0 ∷
    fault_row (76 ∷ 70 ∷ []) 12 0 ∷
    fault_row (LE [] ++ 83 ∷ 73 ∷ []) 12 3 ∷
    fault_row (LE [] ++ 82 ∷ 74 ∷ []) 12 3 ∷
    -- marks not allowed here
    fault_row (RI []) 12 0 ∷
    fault_row (PA 0 (0 ∷ []) ++ RI []) 12 5 ∷
    fault_row (LE [] ++ LE []) 12 3 ∷
    fault_row (LE [] ++ PA 0 (0 ∷ [])) 12 3 ∷
    -- bytes behind `RI`
    fault_row (LE (A ∷ []) ++ RI (B ∷ []) ++ 0 ∷ []) 12 8 ∷
    fault_row (LE [] ++ RI (B ∷ []) ++ PA 0 (0 ∷ [])) 12 7 ∷
    -- no field byte
    fault_row (80 ∷ 65 ∷ []) 11 2 ∷
    -- field 8; a field number that stays, that falls
    fault_row (PA 8 (0 ∷ [])) 13 2 ∷
    fault_row (PA 1 (0 ∷ []) ++ PA 1 (0 ∷ [])) 13 7 ∷
    fault_row (PA 1 (0 ∷ []) ++ PA 0 (0 ∷ [])) 13 7 ∷
    -- a wrong field before a wrong length
    fault_row (80 ∷ 65 ∷ 8 ∷ 0 ∷ []) 13 2 ∷
    -- a pattern of no byte; of 193 bytes, none of which is there
    fault_row (PA 0 []) 14 3 ∷
    fault_row (80 ∷ 65 ∷ 0 ∷ 193 ∷ []) 14 3 ∷
    -- a pattern's body cut short, whatever its bytes
    fault_row (80 ∷ 65 ∷ 0 ∷ 2 ∷ 0 ∷ []) 11 5 ∷
    fault_row (80 ∷ 65 ∷ 0 ∷ 2 ∷ 43 ∷ []) 11 5 ∷
    fault_row (80 ∷ 65 ∷ 0 ∷ 128 ∷ leaves_by 66 63) 11 131 ∷
    -- a fault of a second pattern; its offset is counted from the sheet's start
    fault_row (PA 0 (0 ∷ []) ++ PA 1 (0 ∷ 0 ∷ [])) 15 10 ∷
    fault_row (PA 0 (0 ∷ []) ++ PA 1 (leaves_by 67 63)) 16 135 ∷
    fault_row (PA 0 (0 ∷ []) ++ 80 ∷ 65 ∷ 1 ∷ 0 ∷ []) 14 8 ∷
    -- a side's length byte missing
    fault_row (76 ∷ 69 ∷ []) 11 2 ∷
    fault_row (LE (A ∷ []) ++ 82 ∷ 73 ∷ []) 11 6 ∷
    -- a right side of 25 tokens, none of which is there
    fault_row (LE (A ∷ []) ++ 82 ∷ 73 ∷ 25 ∷ []) 14 6 ∷
    -- a side's body cut short, whatever its tokens
    fault_row (76 ∷ 69 ∷ 1 ∷ []) 11 3 ∷
    fault_row (76 ∷ 69 ∷ 2 ∷ 43 ∷ []) 11 4 ∷
    fault_row (LE (A ∷ []) ++ 82 ∷ 73 ∷ 2 ∷ 43 ∷ []) 11 8 ∷
    -- the tokens of the hidden fields, on either side
    fault_row (LE (72 ∷ [])) 17 3 ∷
    fault_row (LE (73 ∷ [])) 17 3 ∷
    fault_row (LE (A ∷ []) ++ RI (72 ∷ [])) 17 7 ∷
    fault_row (LE (A ∷ []) ++ RI (B ∷ 73 ∷ [])) 17 8 ∷
    -- bytes that are no token, alone and behind others
    fault_row (LE (43 ∷ [])) 17 3 ∷
    fault_row (LE (63 ∷ [])) 17 3 ∷
    fault_row (LE (74 ∷ [])) 17 3 ∷
    fault_row (LE (255 ∷ [])) 17 3 ∷
    fault_row (LE (A ∷ B ∷ 43 ∷ 44 ∷ A ∷ [])) 17 5 ∷
    fault_row (PA 0 (0 ∷ []) ++ LE (43 ∷ [])) 17 8 ∷
    fault_row (LE (A ∷ []) ++ RI (43 ∷ [])) 17 7 ∷
    []

-- "Patterns for fields that stand in neither side" (request K13): 22 at the first one's mark, "after all other checks on the sheet"
abbrev known_strays : List Known
known_strays =
    -- one alone; of field 7, where field 0 stands
    fault_row (PA 0 (A ∷ []) ++ LE [] ++ RI []) 22 0 ∷
    fault_row (PA 7 (A ∷ []) ++ LE (x ∷ []) ++ RI (A ∷ [])) 22 0 ∷
    -- two behind one that stands: the first one's mark
    fault_row (PA 0 As ++ PA 1 (A ∷ []) ++ PA 2 (B ∷ []) ++ LE (x ∷ []) ++ RI []) 22 6 ∷
    -- between two that stand, one in each side; behind both
    fault_row (PA 0 (A ∷ []) ++ PA 1 As ++ PA 2 (A ∷ []) ++ LE (x ∷ []) ++ RI (66 ∷ [])) 22 5 ∷
    fault_row (PA 0 (A ∷ []) ++ PA 1 As ++ PA 2 (A ∷ []) ++ LE (x ∷ []) ++ RI (y ∷ [])) 22 11 ∷
    -- beside a byte that is no token; a record behind `RI`; a right side of 25 tokens; no right side
    fault_row (PA 0 (A ∷ []) ++ LE (43 ∷ []) ++ RI []) 17 8 ∷
    fault_row (PA 0 (A ∷ []) ++ LE [] ++ RI [] ++ PA 1 (A ∷ [])) 12 11 ∷
    fault_row (PA 0 (A ∷ []) ++ LE [] ++ 82 ∷ 73 ∷ 25 ∷ []) 14 10 ∷
    fault_row (PA 0 (A ∷ []) ++ LE []) 11 8 ∷
    -- none: the field stands in the right side alone; in both
    answer_row (PA 0 (A ∷ []) ++ LE (A ∷ []) ++ RI (x ∷ [])) 1500 20 0 8 (VA 0 (A ∷ [])) ∷
    answer_row (PA 1 (A ∷ []) ++ LE (y ∷ []) ++ RI (y ∷ [])) 1300 20 0 7 (VA 1 (A ∷ [])) ∷
    []

abbrev known_sheets : List Known
known_sheets =
    known_in_01 ++ known_rooms ++ known_searches ++ known_open_fields ++ known_spaces ++ known_patterns ++ known_records ++ known_strays

pub known_sheets_met : map got known_sheets ≡ map wanted known_sheets
unfolding set_after may_end judge enter offer take_next search trimmed strike put_before open_moves child_by children question search_from texts_of acceptor marked pattern_record side_record read_end marked_side next_is code edition_front read_by strays_of read_sheet outcome room_of searched standing value_record records clash count_of how_of
known_sheets_met = refl
