-- Lines that the program `clash` prints (document 01, "The program"), as text. The checker computes them.
--   decimals_known, lines_known : numbers in decimal; the lines of an outcome, from its numbers and the records in its answer buffer
--   spelt_lines_known : the same behind `ED`
--   sheets_printed : the lines for whole sheets, with what the program reads and lends
--   program_buffers : the bytes that the program reads and lends
--   program_never_20 : the answer buffer that the program lends is always long enough
use Prim.Native.Nat.{ℕ}
use Prim.Native.Char.{code as code-point}
use Prim.Native.String.{String, [] as []ₜ, ◌∷◌ as ◌∷ₜ◌}
use native.Mathlib.Omega.{arith}
use mathlib.Core.Path.{◌≡◌, refl}
use mathlib.Core.List.{List, [], ◌∷◌, ◌++◌, map}
use lib.ListN.{take, replicate, length-replicate}
use Rattle.paper.specs.Lists.{from, upto, each}
use Rattle.paper.specs.Numbers.{program_input, program_work, program_answer}
use Rattle.paper.specs.Places.{set_after, may_end}
use Rattle.paper.specs.Written.{judge}
use Rattle.paper.specs.Search.{enter, offer, take_next, search}
use Rattle.paper.specs.Situation.{trimmed, strike, put_before, open_moves, child_by, children, question}
use Rattle.paper.specs.Way.{search_from, texts_of}
use Rattle.paper.specs.Question.{acceptor}
use Rattle.paper.specs.Alphabet.{edition_1, edition_2, code}
use Rattle.paper.specs.Sheet.{marked, pattern_record, side_record, read_end, marked_side, next_is, edition_front, strays_of, read_by, read_sheet}
use Rattle.paper.specs.Outcome.{Outcome, outcome, room_of, searched, standing, value_record, records, clash, count_of, how_of}
use Rattle.paper.specs.Printed.{decimal}
use Rattle.paper.proofs.known.KnownSheet.{PA, LE, RI, sheet_S}
use Rattle.paper_spell.specs.FullAscii.{table}
use Rattle.paper_print.specs.TextLines.{sheet_edition}
use Rattle.paper_print.specs.ClashProgram.{printed_of, printed}
use Rattle.paper_vectors.proofs.KnownLengths.{program_room}
use Rattle.paper_laws.proofs.sheets.AnswerRoom.{answer_enough}

abbrev ascii : String → List ℕ
ascii []ₜ = []
ascii (c ∷ₜ s) = code-point c ∷ ascii s

pub decimals_known :
    map decimal (0 ∷ 9 ∷ 10 ∷ 100 ∷ 65535 ∷ 18446744073709551615 ∷ [])
    ≡ map ascii ("0" ∷ "9" ∷ "10" ∷ "100" ∷ "65535" ∷ "18446744073709551615" ∷ [])
decimals_known = refl

-- number, count, place, bytes written, answer buffer
abbrev told : ℕ → ℕ → ℕ → ℕ → List ℕ → Outcome
told n c p w a = record { number = n; count = c; place = p; written = w; answer = a; work = [] }

-- a record with the two bytes of its length
abbrev VA : ℕ → ℕ → ℕ → List ℕ → List ℕ
VA f low high text = 86 ∷ 65 ∷ f ∷ low ∷ high ∷ text

pub lines_known :
    map (printed_of edition_1)
    (told 17 65535 802 0 (VA 0 1 0 (4 ∷ [])) ∷
    told 0 1 0 0 [] ∷
    told 0 12 0 12 (VA 0 1 0 (4 ∷ []) ++ VA 3 1 0 (4 ∷ []) ++ VA 5 1 0 (4 ∷ [])) ∷
    told 0 20 0 16 (VA 0 0 0 [] ++ VA 1 1 0 (10 ∷ []) ++ VA 2 0 0 []) ∷
    told 0 99 0 48 (VA 7 43 0 (upto 43)) ∷
    told 0 301 0 311 (VA 6 44 1 (replicate 300 10) ++ VA 7 1 0 (11 ∷ [])) ∷
    [])
    ≡ map ascii
    ("17 65535 802\n" ∷
    "0 1 0\n" ∷
    "0 12 0\n0 4\n3 4\n" ∷
    "0 20 0\n0 \n1 A\n2 \n" ∷
    "0 99 0\n7 0123456789ABCDEFGHIJKLMNOPQRSTUVWXYZ-. $/+%\n" ∷
    [])
    ++ (ascii "0 301 0\n6 " ++ replicate 300 65 ++ ascii "\n7 B\n") ∷ []
unfolding printed_of
lines_known = refl

-- Behind `ED` every text is spelt: one in two signs for each character, and the characters 28 to 70, in which each shift sign but `$` and `+` stands.
pub spelt_lines_known :
    map (printed_of edition_2)
    (told 17 65535 802 0 (VA 0 1 0 (4 ∷ [])) ∷
    told 0 20 0 18 (VA 0 0 0 [] ++ VA 1 3 0 (97 ∷ 0 ∷ 127 ∷ []) ++ VA 2 0 0 []) ∷
    told 0 99 0 48 (VA 7 43 0 (from 28 43)) ∷
    [])
    ≡ map ascii
    ("17 65535 802\n" ∷
    "0 20 0\n0 \n1 +A%U%T\n2 \n" ∷
    "0 99 0\n7 %B%C%D%E /A/B/C/D/E/F/G/H/I/J/K/L-./O0123456789/Z%F%G%H%I%J%VABCDEF\n" ∷
    [])
unfolding printed_of table
spelt_lines_known = refl

-- eight patterns of 192 bytes, two sides of 24 tokens, the eight fields among them: 1,622 bytes
abbrev longest_pattern : ℕ → List ℕ
longest_pattern f = PA f (replicate 191 68 ++ 0 ∷ [])

-- the record `ED`
abbrev ED : List ℕ → List ℕ
ED sheet = 69 ∷ 68 ∷ 2 ∷ sheet

abbrev longest_sheet : List ℕ
longest_sheet = each longest_pattern (upto 8) ++ LE (from 64 8 ++ replicate 16 10) ++ RI (replicate 24 10)

-- sheet S; xy and eight times `A`, open, which takes more situations than 4,096 bytes have; x and nothing, where x is one space, and where x has
-- the pattern 68 65 0 42 and is empty; the longest good sheet, and one byte more; behind `ED`, x and `a#`, x and nothing, where x is one space, and a
-- stray pattern
pub sheets_printed :
    map printed
    (sheet_S ∷
    (LE (64 ∷ 65 ∷ []) ++ RI (replicate 8 10)) ∷
    (LE (64 ∷ []) ++ RI []) ∷
    (PA 0 (68 ∷ 65 ∷ 0 ∷ 42 ∷ []) ++ LE (64 ∷ []) ++ RI []) ∷
    longest_sheet ∷
    (longest_sheet ++ 0 ∷ []) ∷
    ED (LE (192 ∷ []) ++ RI (97 ∷ 35 ∷ [])) ∷
    ED (LE (192 ∷ []) ++ RI []) ∷
    ED (PA 0 (65 ∷ []) ++ LE [] ++ RI []) ∷
    [])
    ≡ map ascii
    ("0 13 0\n0 4\n1 4\n" ∷
    "0 42 0\n0 A\n1 AAAAAAA\n" ∷
    "0 9 0\n0  \n" ∷
    "0 10 0\n0 \n" ∷
    "1 9 0\n" ∷
    "12 0 1622\n" ∷
    "0 12 0\n0 +A/C\n" ∷
    "0 9 0\n0  \n" ∷
    "22 0 3\n" ∷
    [])
unfolding set_after may_end judge enter offer take_next search trimmed strike put_before open_moves child_by children question search_from texts_of acceptor marked pattern_record side_record read_end marked_side next_is code edition_front read_by strays_of read_sheet outcome room_of searched standing value_record records clash count_of how_of table sheet_edition printed_of printed
sheets_printed = refl

-- "reads the first" 2,048 "bytes of standard input, lends 65,520 bytes of work and 4,096 of answer"
pub program_buffers : program_input ∷ program_work ∷ program_answer ∷ [] ≡ 2048 ∷ 65520 ∷ 4096 ∷ []
program_buffers = refl

-- The answer buffer that the program lends is long enough, whatever is found in 356 situations.
pub program_never_20 : (input : List ℕ)
    → (outcome (take program_input input) (replicate program_work 0) (replicate program_answer 0)).number ≡ 20 → ⊥
unfolding outcome
program_never_20 input =
    let work : List ℕ = replicate program_work 0 in
    answer_enough (read_sheet (take program_input input)) work (replicate program_answer 0)
    (omega (arith, program_room work (length-replicate {A = ℕ} program_work 0), length-replicate {A = ℕ} program_answer 0))
