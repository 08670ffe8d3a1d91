-- From what reading a sheet hands on to the entry's promises: a refused sheet, and a good one whose question was played.
-- Follows from `played_told`, the definition of the player and what is promised of it.
use Prim.Native.Nat.{ℕ}
use mathlib.Core.Path.{◌≡◌, refl, sym, subst, ◌∙◌}
use mathlib.Core.List.{List}
use Rattle.paper.specs.Sheet.{read_sheet}
use Rattle.paper_laws.proofs.sheets.Asked.{sheet_good}
use Rattle.paper_steps.specs.Player.{Play, play}
use Rattle.paper_steps.specs.PlayPromised.{PlayPromised}
use Rattle.paper_steps.proofs.PlayRight.{sheet_play_promised}
use Rattle.read_sheet.specs.SheetRead.{bodies_of, sheet_of}
use Rattle.read_sheet.specs.declared.Sheet.{Sheet}
use Rattle.read_sheet.proofs.SheetStruct.{sheet_asks, sheet_refused}
use Rattle.play_question.specs.QuestionPlayed.{End, question_tables, question_first, PlayedFrom, told_end}
use Rattle.play_question.proofs.PlayAgrees.{played_told}
use Rattle.play_sheet.specs.PlayNumbers.{Playing, told_play}
use Rattle.play_sheet.specs.declared.PlayError.TheVariants.{Refused, Stopped}
use Rattle.play_question.specs.declared.PlayStop.TheVariants.{AnswerTooShort}
use Rattle.play_question.specs.declared.PlayStop.TheVariants as Stop-as
use Rattle.base_answers.specs.declared.Refusal.{Refusal}
use Rattle.std.specs.Prelude.{Ok, Err}

-- an end, handed on by the entry
abbrev pub handed_on : End → Playing
handed_on (Ok n) = Ok n
handed_on (Err stop) = Err (Stopped stop)

-- an end tells the same by its numbers
ended_told : (e : End) (answer : List ℕ) → told_play (handed_on e) answer ≡ told_end e answer
ended_told (Ok n) answer = refl
ended_told (Err AnswerTooShort) answer = refl
ended_told (Err (Stop-as.Stopped why)) answer = refl

pub and_promised : (sheet steps answer : List ℕ) (p : Play) → p ≡ play sheet steps answer
    → (p ≡ play sheet steps answer) × PlayPromised (read_sheet sheet) steps answer p
and_promised sheet steps answer p e =
    (e, subst (PlayPromised (read_sheet sheet) steps answer) (sym e) (sheet_play_promised sheet steps answer))

module _ (sheet steps answer : List ℕ) where
  -- "the sheet's own"
  pub sheet_at_fault : (x : Refusal) → sheet_of (bodies_of sheet) (read_sheet sheet) ≡ Err x → told_play (Err (Refused x)) answer ≡ play sheet steps answer
  unfolding play
  sheet_at_fault x h = rw (sheet_refused sheet x h)

  pub sheet_played : (s : Sheet) → sheet_of (bodies_of sheet) (read_sheet sheet) ≡ Ok s → (after : List ℕ) (r : End)
      → PlayedFrom (question_tables s.question) (question_first s.question) steps answer after r
      → told_play (handed_on r) after ≡ play sheet steps answer
  unfolding play
  sheet_played s h after r p =
      let a = sheet_asks sheet s h in
      let q = a.question in
      rw a.good
      (ended_told r after ∙ played_told q (sheet_good sheet q a.good) steps answer (bodies_of sheet) s.question a.is after r p)
