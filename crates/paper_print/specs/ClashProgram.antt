-- What the program `clash` prints (document 01, "The program"), as bytes.
use Rattle.std.specs.Prelude.{ℕ, List, [], ◌∷◌, ◌++◌, take, replicate}
use Rattle.paper.specs.Numbers.{program_input, program_work, program_answer}
use Rattle.paper.specs.Alphabet.{Edition}
use Rattle.paper.specs.Outcome.{Outcome, outcome}
use Rattle.paper.specs.Printed.{decimal, blank_sign, newline}
use Rattle.paper_print.specs.TextLines.{sheet_edition, value_lines}

-- "Its first line is answer, count and place in decimal, one space between"
abbrev pub first_line : ℕ → ℕ → ℕ → List ℕ
first_line number count place =
    decimal number ++ (blank_sign ∷ decimal count) ++ (blank_sign ∷ decimal place) ++ (newline ∷ [])

unfoldable pub printed_of : Edition → Outcome → List ℕ
printed_of e o =
    first_line o.number o.count o.place ++ value_lines e o.written (take o.written o.answer)

-- of a sheet, in two lent buffers
abbrev pub printed_sheet : List ℕ → List ℕ → List ℕ → List ℕ
printed_sheet sheet work answer = printed_of (sheet_edition sheet) (outcome sheet work answer)

-- "`clash` reads the first" 2,048 "bytes of standard input, lends 65,520 bytes of work" (356 situations) "and 4,096 of answer."
unfoldable pub printed : List ℕ → List ℕ
printed input = printed_sheet (take program_input input) (replicate program_work 0) (replicate program_answer 0)
