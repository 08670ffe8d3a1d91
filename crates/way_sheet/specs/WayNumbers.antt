-- What the answer about given texts says, in numbers.
use Rattle.std.specs.Prelude.{ℕ, Result, Ok, Err, List}
use Rattle.paper_way.specs.WayOutcome.{Way}
use Rattle.base_answers.specs.AnswerNumbers.{written_numbers, number_alone, refusal_numbers}
use Rattle.base_answers.specs.declared.Numbers.{Numbers}
use Rattle.play_walk.specs.WalkCoded.{stop_number}
use Rattle.way_question.specs.declared.WayStop as Stop
use Rattle.way_question.specs.declared.WayStop.TheVariants.{StepsTooShort}
use Rattle.way_question.specs.declared.WayStop.TheVariants as Stop-as
use Rattle.way_sheet.specs.declared.WayError.{WayError}
use Rattle.way_sheet.specs.declared.WayError.TheVariants.{Refused, Stopped}

abbrev pub stop_numbers : Stop.WayStop → Numbers
stop_numbers StepsTooShort = number_alone 51
stop_numbers (Stop-as.Stopped why) = number_alone (stop_number why)

abbrev pub error_numbers : WayError → Numbers
error_numbers (Refused refusal) = refusal_numbers refusal
error_numbers (Stopped stop) = stop_numbers stop

-- so many bytes of steps are written, or none
abbrev pub WayAnswer : Type 0
WayAnswer = Result ℕ WayError

abbrev pub way_numbers : WayAnswer → Numbers
way_numbers (Ok written) = written_numbers written
way_numbers (Err e) = error_numbers e

-- what an answer tells, with the steps buffer as it is afterwards
abbrev pub told_way : WayAnswer → List ℕ → Way
told_way a steps =
    let n = way_numbers a in
    record { number = n.number; count = n.count; place = n.place; written = n.written; steps = steps }
