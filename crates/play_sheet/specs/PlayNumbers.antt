-- What the player's answer says, in numbers.
use Rattle.std.specs.Prelude.{ℕ, Result, Ok, Err, List}
use Rattle.paper_steps.specs.Player.{Play}
use Rattle.base_answers.specs.AnswerNumbers.{written_numbers, number_alone, refusal_numbers}
use Rattle.base_answers.specs.declared.Numbers.{Numbers}
use Rattle.play_walk.specs.WalkCoded.{stop_number}
use Rattle.play_question.specs.declared.PlayStop as Stop
use Rattle.play_question.specs.declared.PlayStop.TheVariants.{AnswerTooShort}
use Rattle.play_question.specs.declared.PlayStop.TheVariants as Stop-as
use Rattle.play_sheet.specs.declared.PlayError.{PlayError}
use Rattle.play_sheet.specs.declared.PlayError.TheVariants.{Refused, Stopped}

-- "Count and place 0 but for the sheet's own"
abbrev pub stop_numbers : Stop.PlayStop → Numbers
stop_numbers AnswerTooShort = number_alone 20
stop_numbers (Stop-as.Stopped why) = number_alone (stop_number why)

abbrev pub error_numbers : PlayError → Numbers
error_numbers (Refused refusal) = refusal_numbers refusal
error_numbers (Stopped stop) = stop_numbers stop

-- so many bytes of texts are written, or none
abbrev pub Playing : Type 0
Playing = Result ℕ PlayError

abbrev pub play_numbers : Playing → Numbers
play_numbers (Ok written) = written_numbers written
play_numbers (Err e) = error_numbers e

-- what an answer tells, with the answer buffer as it is afterwards
abbrev pub told_play : Playing → List ℕ → Play
told_play p answer =
    let n = play_numbers p in
    record { number = n.number; count = n.count; place = n.place; written = n.written; answer = answer }
