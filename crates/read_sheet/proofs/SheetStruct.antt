-- What the answer of reading a sheet says of the sheet: which fault was met and where, or which question is asked.
--   reading_refused, sheet_refused : Err e → the sheet is refused, with the fault e.fault and the place e.place
--   reading_asks, sheet_asks       : Ok r → some question is asked, and r has it
-- The first of each is of any reading, the second of `read_sheet`. By cases on the reading.
use Prim.Native.Nat.{ℕ}
use mathlib.Core.Path.{◌≡◌, refl}
use mathlib.Core.List.{List}
use Rattle.std.specs.Prelude.{Ok, Err}
use Rattle.paper.specs.Alphabet.{edition_of}
use Rattle.paper.specs.Question.{Question}
use Rattle.paper.specs.Sheet.{Reading, refused, asked, read_sheet}
use Rattle.base_answers.specs.Faults.{fault_of, as_fault}
use Rattle.base_answers.specs.declared.Refusal.{Refusal}
use Rattle.base_answers.proofs.Same.{same_paper}
use Rattle.base_editions.specs.Editions.{edition_code}
use Rattle.base_question.specs.Asked.{question_of}
use Rattle.read_sheet.specs.SheetRead.{bodies_of, sheet_of}
use Rattle.read_sheet.specs.declared.Sheet.{Sheet}

-- what is asked, by a reading of the sheet
pub record AskedBy (x : Reading) (sheet : List ℕ) (s : Sheet) : Type 0 where
  pub question : Question
  pub good : x ≡ asked question
  pub is : s.question ≡ question_of question (bodies_of sheet)
  pub edition : s.edition ≡ edition_code (edition_of question.alphabet)

-- what a good sheet asks
abbrev pub Asking : List ℕ → Sheet → Type 0
Asking sheet s = AskedBy (read_sheet sheet) sheet s

module _ (sheet : List ℕ) where
  pub reading_asks : (x : Reading) (s : Sheet) → sheet_of (bodies_of sheet) x ≡ Ok s → AskedBy x sheet s
  reading_asks (refused x at) s h = absurd (cc)
  reading_asks (asked q) s h =
      let same : record { edition = edition_code (edition_of q.alphabet); question = question_of q (bodies_of sheet) } ≡ s = cc in
      rw (← same) (record { question = q; good = refl; is = refl; edition = refl })

  pub reading_refused : (x : Reading) (e : Refusal) → sheet_of (bodies_of sheet) x ≡ Err e → x ≡ refused (fault_of e.fault) e.place
  reading_refused (refused x at) e h =
      let same : record { fault = as_fault x; place = at } ≡ e = cc in
      rw (← same, same_paper x)
  reading_refused (asked q) e h = absurd (cc)

  pub sheet_asks : (s : Sheet) → sheet_of (bodies_of sheet) (read_sheet sheet) ≡ Ok s → Asking sheet s
  sheet_asks s h = reading_asks (read_sheet sheet) s h

  pub sheet_refused : (e : Refusal) → sheet_of (bodies_of sheet) (read_sheet sheet) ≡ Err e → read_sheet sheet ≡ refused (fault_of e.fault) e.place
  sheet_refused e h = reading_refused (read_sheet sheet) e h
