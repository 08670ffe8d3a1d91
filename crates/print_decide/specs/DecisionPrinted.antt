-- The lines of a decision for a sheet and three lent buffers: what becomes of the buffers. What is printed is `DecideProgram` of `paper_print`.
use Rattle.std.specs.Prelude.{ℕ, List}
use Rattle.paper_decide.specs.Deciding.{decision}
use Rattle.paper_print.specs.TextLines.{sheet_edition}
use Rattle.paper_print.specs.DecideProgram.{printed_decision}
use Rattle.print_lines.specs.Lines.{longest_decided_line}
use Rattle.print_clash.specs.ClashPrinted.{Lined, lined_where_room}

-- where the longest lines have room, those of the decision; else nothing is asked and nothing changed
unfoldable pub lined_decided : List ℕ → List ℕ → List ℕ → List ℕ → Lined
lined_decided sheet work answer out =
    let d = decision sheet work answer in
    lined_where_room longest_decided_line (printed_decision (sheet_edition sheet) d) d.outcome work answer out
