-- From what reading a sheet hands on to the entry's promises: a refused sheet, and a good one on whose question the texts were spelt.
-- Follows from `way_agrees`, the definition of the way and what is promised of it.
use Prim.Native.Nat.{ℕ}
use mathlib.Core.Path.{◌≡◌, refl, sym, subst, ◌∙◌}
use mathlib.Core.List.{List}
use Rattle.paper.specs.Sheet.{read_sheet}
use Rattle.paper_laws.proofs.sheets.Asked.{sheet_good}
use Rattle.paper_way.specs.WayOutcome.{Way, way}
use Rattle.paper_way.specs.WayPromised.{WayPromised}
use Rattle.paper_way.proofs.WayRight.{sheet_way_promised}
use Rattle.read_sheet.specs.SheetRead.{bodies_of, sheet_of}
use Rattle.read_sheet.specs.declared.Sheet.{Sheet}
use Rattle.read_sheet.proofs.SheetStruct.{sheet_asks, sheet_refused}
use Rattle.way_question.specs.WaySpelt.{End, WayOn, told_end}
use Rattle.way_question.proofs.WayAgrees.{way_agrees}
use Rattle.way_sheet.specs.WayNumbers.{WayAnswer, told_way}
use Rattle.way_sheet.specs.declared.WayError.TheVariants.{Refused, Stopped}
use Rattle.way_question.specs.declared.WayStop.TheVariants.{StepsTooShort}
use Rattle.way_question.specs.declared.WayStop.TheVariants as Stop-as
use Rattle.base_answers.specs.declared.Refusal.{Refusal}
use Rattle.std.specs.Prelude.{Ok, Err}

-- an end, handed on by the entry
abbrev pub handed_on : End → WayAnswer
handed_on (Ok n) = Ok n
handed_on (Err stop) = Err (Stopped stop)

-- an end tells the same by its numbers
ended_told : (e : End) (steps : List ℕ) → told_way (handed_on e) steps ≡ told_end e steps
ended_told (Ok n) steps = refl
ended_told (Err StepsTooShort) steps = refl
ended_told (Err (Stop-as.Stopped why)) steps = refl

pub and_promised : (sheet texts steps : List ℕ) (o : Way) → o ≡ way sheet texts steps
    → (o ≡ way sheet texts steps) × WayPromised (read_sheet sheet) texts steps o
and_promised sheet texts steps o e =
    (e, subst (WayPromised (read_sheet sheet) texts steps) (sym e) (sheet_way_promised sheet texts steps))

module _ (sheet texts steps : List ℕ) where
  -- "the sheet's own"
  pub sheet_at_fault : (x : Refusal) → sheet_of (bodies_of sheet) (read_sheet sheet) ≡ Err x → told_way (Err (Refused x)) steps ≡ way sheet texts steps
  unfolding way
  sheet_at_fault x h = rw (sheet_refused sheet x h)

  pub sheet_spelt : (s : Sheet) → sheet_of (bodies_of sheet) (read_sheet sheet) ≡ Ok s → (after : List ℕ) (r : End) → WayOn s.question texts steps after r
      → told_way (handed_on r) after ≡ way sheet texts steps
  unfolding way
  sheet_spelt s h after r p =
      let a = sheet_asks sheet s h in
      let q = a.question in
      rw a.good (ended_told r after ∙ way_agrees q (sheet_good sheet q a.good) texts steps (bodies_of sheet) s.question a.is after r p)
