-- The lines for a sheet and three lent buffers: what becomes of the buffers. What is printed is `ClashProgram` of `paper_print`.
use Rattle.std.specs.Prelude.{ℕ, cond, List, leb, length, replicate, Option, Some, None}
use Rattle.paper.specs.Numbers.{program_work, program_answer}
use Rattle.paper.specs.Outcome.{Outcome, outcome}
use Rattle.paper_print.specs.TextLines.{sheet_edition}
use Rattle.paper_print.specs.ClashProgram.{printed_of}
use Rattle.print_lines.specs.Lines.{longest_first_line, lines_in_front, room_for}

-- how many bytes the lines are, if they have room, and the three buffers afterwards
pub record Lined : Type 0 where
  pub said : Option ℕ
  pub out : List ℕ
  pub answer : List ℕ
  pub work : List ℕ

abbrev pub lined_as : Option ℕ → List ℕ → List ℕ → List ℕ → Lined
lined_as said out answer work = record { said = said; out = out; answer = answer; work = work }

-- where the longest lines have room, these lines of an outcome; else nothing is asked and nothing changed
abbrev pub lined_where_room : ℕ → List ℕ → Outcome → List ℕ → List ℕ → List ℕ → Lined
lined_where_room longest lines o work answer out =
    cond (leb (room_for longest answer) (length out)) (lined_as (Some (length lines)) (lines_in_front lines out) o.answer o.work)
    (lined_as None out answer work)

unfoldable pub lined : List ℕ → List ℕ → List ℕ → List ℕ → Lined
lined sheet work answer out =
    let o = outcome sheet work answer in lined_where_room longest_first_line (printed_of (sheet_edition sheet) o) o work answer out

-- the program's buffers, shut: open, 65,520 and 4,096 zeros are written out
unfoldable pub no_work : List ℕ
no_work = replicate program_work 0

unfoldable pub no_answer : List ℕ
no_answer = replicate program_answer 0
