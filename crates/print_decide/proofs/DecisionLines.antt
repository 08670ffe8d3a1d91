-- The lines of an answer and a search that tell the decision are those that the program prints. Follows from the definitions of
-- `printed_decision` and `printed_decided`.
use Prim.Native.Nat.{ℕ}
use mathlib.Core.Path.{◌≡◌, refl, ap, ◌∙◌}
use mathlib.Core.List.{List}
use lib.ListN.{take}
use Rattle.paper.specs.Numbers.{program_input}
use Rattle.paper_decide.specs.Deciding.{Decision, decision}
use Rattle.paper.specs.Alphabet.{Edition}
use Rattle.paper_print.specs.TextLines.{sheet_edition}
use Rattle.paper_print.specs.DecideProgram.{printed_decision, printed_decided}
use Rattle.base_answers.specs.AnswerNumbers.{as_numbers}
use Rattle.base_answers.specs.declared.Numbers.{Numbers}
use Rattle.decide_sheet.specs.Decision.{told_decision}
use Rattle.decide_sheet.specs.declared.Decision as Code
use Rattle.print_lines.specs.Writing.{numbers_line_decided}
use Rattle.print_lines.specs.Lines.{decided_lines_of}
use Rattle.print_clash.specs.ClashPrinted.{no_work, no_answer}

lines_told : (e : Edition) (d : Code.Decision) (answer work : List ℕ)
    → decided_lines_of e (as_numbers d.answer) d.search answer ≡ printed_decision e (told_decision d answer work)
unfolding printed_decision numbers_line_decided
lines_told e d answer work = refl

pub printed_lines : (k e : Edition) (d : Code.Decision) {numbers : Numbers} {answer work : List ℕ} {x : Decision}
    → k ≡ e → told_decision d answer work ≡ x → numbers ≡ as_numbers d.answer
    → decided_lines_of k numbers d.search answer ≡ printed_decision e x
printed_lines k e d {answer = answer} {work = work} same whole named =
    rw (same, named) (lines_told e d answer work) ∙ ap (printed_decision e) whole

-- what the program prints, by its buffers
pub printed_program : (input : List ℕ) →
    let sheet = take program_input input in
    printed_decided input ≡ printed_decision (sheet_edition sheet) (decision sheet no_work no_answer)
unfolding printed_decided no_work no_answer
printed_program input = refl
