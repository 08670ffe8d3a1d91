-- What the sheet reader hands on (document 01, "Checks on the sheet"): the fault with its place, or the question.
use Rattle.std.specs.Prelude.{ℕ, List, Result, Ok, Err}
use Rattle.paper.specs.Alphabet as Paper
use Rattle.paper.specs.Alphabet.{edition_of}
use Rattle.paper.specs.Sheet.{Checked, fault, read, Reading, refused, asked, edition_front}
use Rattle.base_editions.specs.Editions.{edition_code}
use Rattle.base_editions.specs.declared.Edition.{Edition}
use Rattle.base_question.specs.Bodies.{no_bodies}
use Rattle.base_question.specs.Asked.{question_of}
use Rattle.base_question.specs.declared.Body.{Body}
use Rattle.base_question.specs.declared.Question.{Question}
use Rattle.base_answers.specs.Faults.{as_fault}
use Rattle.base_answers.specs.declared.Refusal.{Refusal}
use Rattle.read_fields.specs.Bodies.{bodies_in}
use Rattle.read_sheet.specs.declared.Front.{Front}
use Rattle.read_sheet.specs.declared.Sheet.{Sheet}

-- where the patterns of the sheet stand: behind its edition, by their offsets in the whole sheet
abbrev pub bodies_behind : List ℕ → Checked Paper.Edition → List Body
bodies_behind sheet (fault x at) = no_bodies
bodies_behind sheet (read e at) = bodies_in sheet at

unfoldable pub bodies_of : List ℕ → List Body
bodies_of sheet = bodies_behind sheet (edition_front sheet)

-- what the sheet begins with: its edition, or the fault
abbrev pub front_of : Checked Paper.Edition → Result Front Refusal
front_of (fault x at) = Err (record { fault = as_fault x; place = at })
front_of (read e at) = Ok (record { edition = edition_code e; next = record { at = at } })

-- what reading a sheet hands on, its patterns standing there
abbrev pub sheet_of : List Body → Reading → Result Sheet Refusal
sheet_of bodies (refused x at) = Err (record { fault = as_fault x; place = at })
sheet_of bodies (asked q) = Ok (record { edition = edition_code (edition_of q.alphabet); question = question_of q bodies })

-- the same where the question was lent, and the edition told
abbrev pub sheet_with : Result Edition Refusal → Question → Result Sheet Refusal
sheet_with (Ok e) q = Ok (record { edition = e; question = q })
sheet_with (Err x) q = Err x
