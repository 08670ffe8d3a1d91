-- What a decision of the code tells.
use Rattle.std.specs.Prelude.{ℕ, List}
use Rattle.base_answers.specs.AnswerNumbers.{told}
use Rattle.paper_decide.specs.Deciding.{Decision}
use Rattle.decide_sheet.specs.declared.Decision as Code

-- the answer, both buffers as they are afterwards, and the search
abbrev pub told_decision : Code.Decision → List ℕ → List ℕ → Decision
told_decision d answer work = record { outcome = told d.answer answer work; search = d.search }
