-- What the answers of the small engine tell, in numbers.
use Rattle.std.specs.Prelude.{ℕ, List, Ok, Err}
use Rattle.paper.specs.Sheet.{fault_number}
use Rattle.paper_plain.specs.Engine.{Engine, Needs}
use Rattle.base_answers.specs.Faults.{fault_of}
use Rattle.base_answers.specs.declared.Numbers.{Numbers}
use Rattle.plain_answer.specs.declared.Verdict.TheVariants.{Clash, NoClash}
use Rattle.plain_answer.specs.declared.PlainError.{PlainError}
use Rattle.plain_answer.specs.declared.PlainError.TheVariants.{StandsTwice, BitsTooFew, Refused}
use Rattle.plain_answer.specs.Answered.{PlainAnswer, Needed, plain_error}

-- no count is told
abbrev pub numbers : ℕ → ℕ → ℕ → Numbers
numbers number place written = record { number = number; count = 0; place = place; written = written }

abbrev pub error_numbers : PlainError → Numbers
error_numbers StandsTwice = numbers 42 0 0
error_numbers BitsTooFew = numbers 43 0 0
error_numbers (Refused r) = numbers (fault_number (fault_of r.fault)) r.place 0

abbrev pub plain_numbers : PlainAnswer → Numbers
plain_numbers (Ok Clash) = numbers 0 0 0
plain_numbers (Ok NoClash) = numbers 1 0 0
plain_numbers (Err e) = error_numbers e

-- the outcome that an answer tells, with the bit buffer as it is afterwards
abbrev pub told_plain : PlainAnswer → List ℕ → Engine
told_plain a bits = let n = plain_numbers a in record { number = n.number; count = n.count; place = n.place; bits = bits }

abbrev pub needed_numbers : Needed → Numbers
needed_numbers (Ok bytes) = numbers 0 0 bytes
needed_numbers (Err e) = error_numbers (plain_error e)

abbrev pub told_needed : Needed → Needs
told_needed a = let n = needed_numbers a in record { number = n.number; place = n.place; bytes = n.written }
