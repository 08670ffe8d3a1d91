-- What the answer of the search that writes its way says, in numbers.
use Rattle.std.specs.Prelude.{ℕ, List, Result, Ok, Err}
use Rattle.paper.specs.Sheet.{fault_number}
use Rattle.paper_steps.specs.StepsOutcome.{StepsOutcome}
use Rattle.base_answers.specs.Faults.{fault_of}
use Rattle.base_steps.specs.declared.StepsHow.{StepsHow}
use Rattle.base_steps.specs.declared.StepsHow.TheVariants.{Clash, NoClash, NoRoom, SideTooLong, AnswerTooShort, StepsTooShort}
use Rattle.base_answers.specs.declared.Refusal.{Refusal}
use Rattle.base_steps.specs.declared.StepsEnded.{StepsEnded}
use Rattle.base_steps.specs.declared.StepsNumbers.{StepsNumbers}

-- no byte is written
abbrev pub bare_numbers : ℕ → ℕ → ℕ → StepsNumbers
bare_numbers number count place = record { number = number; count = count; place = place; written = 0; steps = 0 }

abbrev pub end_numbers : StepsHow → ℕ → StepsNumbers
end_numbers (Clash written steps) n = record { number = 0; count = n; place = 0; written = written; steps = steps }
end_numbers NoClash n = bare_numbers 1 n 0
end_numbers NoRoom n = bare_numbers 18 n 0
end_numbers SideTooLong n = bare_numbers 19 n 0
end_numbers AnswerTooShort n = bare_numbers 20 n 0
end_numbers StepsTooShort n = bare_numbers 51 n 0

-- the answer to a sheet: how its search ended, or what it is refused for
abbrev pub StepsAnswer : Type 0
StepsAnswer = Result StepsEnded Refusal

abbrev pub steps_numbers : StepsAnswer → StepsNumbers
steps_numbers (Ok e) = end_numbers e.how e.count
steps_numbers (Err r) = bare_numbers (fault_number (fault_of r.fault)) 0 r.place

-- the outcome that an answer tells, with the three buffers as they are afterwards
abbrev pub told_steps : StepsAnswer → List ℕ → List ℕ → List ℕ → StepsOutcome
told_steps a answer work steps =
    let n = steps_numbers a in
    record {
      number = n.number;
      count = n.count;
      place = n.place;
      written = n.written;
      step_bytes = n.steps;
      answer = answer;
      work = work;
      steps = steps;
    }
