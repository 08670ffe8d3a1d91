-- What the answer of the script tells, and what is put on the way.
use Rattle.std.specs.Prelude.{ℕ, ◌+◌, ◌≤◌, ◌<◌, ◌≡◌, cond, List, [], ◌∷◌, ltb, length, get_or, Result, Ok, Err}
use Rattle.paper.specs.Lists.{upto, keep, each}
use Rattle.paper.specs.Numbers.{fields, set_fields}
use Rattle.paper.specs.Alphabet.{Edition, edition_1, edition_2, edition_of}
use Rattle.paper.specs.Question.{Question, held_by, hidden}
use Rattle.paper.specs.Sheet.{asked, read_sheet}
use Rattle.paper_script.specs.Script.{field_lines}
use Rattle.paper_script.specs.Scripting.{Scripting, scripting_told}
use Rattle.base_question.specs.Bodies.{nowhere}
use Rattle.base_question.specs.Standings.{is_counted}
use Rattle.base_question.specs.declared.Body.{Body}
use Rattle.base_answers.specs.AnswerNumbers.{written_numbers, number_alone, refusal_numbers}
use Rattle.base_answers.specs.declared.Numbers.{Numbers}
use Rattle.script_sheet.specs.declared.ScriptError.{ScriptError}
use Rattle.script_sheet.specs.declared.ScriptError.TheVariants.{Refused, TooShort}

abbrev pub error_numbers : ScriptError → Numbers
error_numbers (Refused r) = refusal_numbers r
error_numbers TooShort = number_alone 40

abbrev pub scripted_numbers : Result ℕ ScriptError → Numbers
scripted_numbers (Ok bytes) = written_numbers bytes
scripted_numbers (Err e) = error_numbers e

abbrev pub told_scripted : Result ℕ ScriptError → List ℕ → Scripting
told_scripted s out = let n = scripted_numbers s in scripting_told n.number n.place n.written out

-- the sheet asks this, in this edition
pub record AsksIn (e : Edition) (sheet : List ℕ) (q : Question) : Type 0 where
  pub asks : read_sheet sheet ≡ asked q
  pub its_edition : e ≡ edition_of q.alphabet

-- one character of all, then any number of them; and any number of the space: as bytes of a pattern
abbrev pub some_bytes : Edition → List ℕ
some_bytes edition_1 = 66 ∷ 65 ∷ 0 ∷ 42 ∷ 68 ∷ 65 ∷ 0 ∷ 42 ∷ []
some_bytes edition_2 = 194 ∷ 193 ∷ 0 ∷ 127 ∷ 196 ∷ 193 ∷ 0 ∷ 127 ∷ []

abbrev pub spaces_bytes : Edition → List ℕ
spaces_bytes edition_1 = 68 ∷ 38 ∷ []
spaces_bytes edition_2 = 196 ∷ 32 ∷ []

-- the lines of these fields
abbrev pub fields_lines : Edition → Question → List ℕ → List ℕ
fields_lines e q fs = each (λ (f : ℕ). field_lines e f (held_by (hidden q) f)) fs

-- the fields that stand, by how often each does
abbrev pub fields_counted : List ℕ → List ℕ
fields_counted counts = keep (is_counted counts) (upto set_fields)

-- where the pattern of a field stands; that of a hidden field stands nowhere
abbrev pub body_of : List Body → ℕ → Body
body_of bodies f = cond (ltb f fields) (get_or bodies f nowhere) nowhere

-- every pattern lies within the sheet
abbrev pub BodiesWithin : List ℕ → List Body → Type 0
BodiesWithin sheet bodies = (f : ℕ) → f < fields → (get_or bodies f nowhere).start + (get_or bodies f nowhere).length ≤ length sheet
