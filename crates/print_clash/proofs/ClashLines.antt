-- The lines of an answer that tells the outcome are those that the program prints. Follows from the definitions of `printed_of` and `printed`.
use Prim.Native.Nat.{ℕ}
use mathlib.Core.Path.{◌≡◌, refl, ap, ◌∙◌}
use mathlib.Core.List.{List}
use lib.ListN.{take}
use Rattle.paper.specs.Numbers.{program_input}
use Rattle.paper.specs.Outcome.{Outcome, outcome}
use Rattle.paper.specs.Alphabet.{Edition}
use Rattle.paper_print.specs.TextLines.{sheet_edition}
use Rattle.paper_print.specs.ClashProgram.{printed_of, printed}
use Rattle.base_answers.specs.AnswerNumbers.{Answer, as_numbers, told}
use Rattle.base_answers.specs.declared.Numbers.{Numbers}
use Rattle.print_lines.specs.Writing.{numbers_line}
use Rattle.print_lines.specs.Lines.{lines_of}
use Rattle.print_clash.specs.ClashPrinted.{no_work, no_answer}

lines_told : (e : Edition) (a : Answer) (answer work : List ℕ) → lines_of e (as_numbers a) answer ≡ printed_of e (told a answer work)
unfolding printed_of numbers_line
lines_told e a answer work = refl

pub printed_lines : (k e : Edition) (a : Answer) {numbers : Numbers} {answer work : List ℕ} {o : Outcome}
    → k ≡ e → told a answer work ≡ o → numbers ≡ as_numbers a → lines_of k numbers answer ≡ printed_of e o
printed_lines k e a {answer = answer} {work = work} same whole named = rw (same, named) (lines_told e a answer work) ∙ ap (printed_of e) whole

-- what the program prints, by its buffers
pub printed_program : (input : List ℕ) →
    let sheet = take program_input input in printed input ≡ printed_of (sheet_edition sheet) (outcome sheet no_work no_answer)
unfolding printed no_work no_answer
printed_program input = refl
