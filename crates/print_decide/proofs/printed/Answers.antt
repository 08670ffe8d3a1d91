-- `printed` meets its contract: the program's part of the input, its buffers, and the lines. Follows from `program_prints`
-- and `printed_program`.
use mathlib.Core.Path.{refl}
use lib.ListN.{take}
use borrow.Author.Rules.{rules}
use Rattle.paper.specs.Numbers.{program_input}
use Rattle.paper_decide.specs.Deciding.{decision}
use Rattle.paper_print.specs.TextLines.{sheet_edition}
use Rattle.paper_print.specs.DecideProgram.{printed_decision}
use Rattle.print_lines.specs.Lines.{longest_decided_line}
use Rattle.print_clash.specs.ClashPrinted.{no_work, no_answer}
use Rattle.print_decide.specs.DecisionPrinted.{lined_decided}
use Rattle.print_clash.proofs.Making.{program_prints}
use Rattle.print_decide.proofs.DecisionLines.{printed_program}
use Rattle.print_decide.proofs.printed.Goals as goal

pub returns : goal.returns
unfolding lined_decided
returns c =
    let a = c.args in
    let sheet = take program_input a.input.now in
    let d = decision sheet no_work no_answer in
    rw (printed_program a.input.now, c.unwrap_or.ensures)
    (program_prints longest_decided_line (printed_decision (sheet_edition sheet) d) d.outcome no_work no_answer a.out.now refl
    (search rules)
    (rw (c.program_part.ensures, c.zeroed_work-work.ensures, c.zeroed_answer-answer.ensures) at c.lines.ensures))
