-- What the program `decide` prints, as bytes: as `clash` does, with the number of the search that decided at the end of the first line.
use Rattle.std.specs.Prelude.{ℕ, List, [], ◌∷◌, ◌++◌, take, replicate}
use Rattle.paper.specs.Numbers.{program_input, program_work, program_answer}
use Rattle.paper.specs.Alphabet.{Edition}
use Rattle.paper.specs.Printed.{decimal, blank_sign, newline}
use Rattle.paper_decide.specs.Deciding.{Decision, decision}
use Rattle.paper_print.specs.TextLines.{sheet_edition, value_lines}

-- number, count, place and search in decimal, one space between
abbrev pub decided_line : ℕ → ℕ → ℕ → ℕ → List ℕ
decided_line number count place search =
    decimal number ++ (blank_sign ∷ decimal count) ++ (blank_sign ∷ decimal place) ++ (blank_sign ∷ decimal search) ++ (newline ∷ [])

-- and a line for each `VA`
unfoldable pub printed_decision : Edition → Decision → List ℕ
printed_decision e d =
    let o = d.outcome in
    decided_line o.number o.count o.place d.search ++ value_lines e o.written (take o.written o.answer)

-- of a sheet, in two lent buffers
abbrev pub printed_sheet_decision : List ℕ → List ℕ → List ℕ → List ℕ
printed_sheet_decision sheet work answer = printed_decision (sheet_edition sheet) (decision sheet work answer)

-- of the same part of standard input and in the same buffers as `clash`
unfoldable pub printed_decided : List ℕ → List ℕ
printed_decided input = printed_sheet_decision (take program_input input) (replicate program_work 0) (replicate program_answer 0)
