-- From what reading a sheet hands on to the promises of `steps`: a refused sheet, a good one whose question was searched, and all that is promised.
-- Follows from `steps_told_all`, the definition of the outcome and the theorem of what is promised.
use Prim.Native.Nat.{ℕ}
use mathlib.Core.Path.{◌≡◌, refl, sym, subst}
use mathlib.Core.Bool.{false}
use mathlib.Core.List.{List, []}
use lib.Dec.{eqb}
use Rattle.std.specs.Prelude.{Ok, Err}
use Rattle.paper.specs.Sheet as Paper
use Rattle.paper.specs.Outcome.{Outcome, outcome_of}
use Rattle.paper_laws.proofs.sheets.Asked.{sheet_good}
use Rattle.paper_laws.proofs.sheets.Hidden.{hidden_searchable}
use Rattle.paper_steps.specs.StepsOutcome.{StepsOutcome, without_steps, with_steps, steps_outcome}
use Rattle.paper_steps.specs.StepsPromised.{StepsPromised}
use Rattle.paper_steps.proofs.StepsRight.{sheet_steps_promised}
use Rattle.base_answers.specs.Faults.{fault_of}
use Rattle.base_answers.specs.declared.Refusal.{Refusal}
use Rattle.base_steps.specs.StepsNumbered.{told_steps}
use Rattle.base_steps.specs.declared.StepsEnded.{StepsEnded}
use Rattle.search_run.specs.StepsEnded.{steps_run}
use Rattle.search_question.proofs.Searched.{SearchedSteps, steps_told_all}
use Rattle.read_sheet.specs.SheetRead.{bodies_of, sheet_of}
use Rattle.read_sheet.specs.declared.Sheet.{Sheet}
use Rattle.read_sheet.proofs.SheetStruct.{sheet_asks, sheet_refused}

-- no number of a fault is 0
fault_not_0 : (x : Paper.Fault) → eqb (Paper.fault_number x) 0 ≡ false
fault_not_0 Paper.cut_short = refl
fault_not_0 Paper.wrong_mark = refl
fault_not_0 Paper.wrong_field = refl
fault_not_0 Paper.wrong_length = refl
fault_not_0 Paper.not_one_pattern = refl
fault_not_0 Paper.too_many_leaves = refl
fault_not_0 Paper.wrong_token = refl
fault_not_0 Paper.wrong_edition = refl
fault_not_0 Paper.stray_pattern = refl

other_than_0 : (bytes : List ℕ) (o : Outcome) (answer steps : List ℕ) → eqb o.number 0 ≡ false → without_steps o steps ≡ with_steps bytes o answer steps
unfolding with_steps
other_than_0 bytes o answer steps e = rw e

module _ (sheet : List ℕ) where
  -- a refused sheet changes no buffer
  pub refused_steps : (x : Refusal) → sheet_of (bodies_of sheet) (Paper.read_sheet sheet) ≡ Err x
      → (work answer steps : List ℕ) → told_steps (Err x) answer work steps ≡ steps_outcome sheet work answer steps
  unfolding steps_outcome
  refused_steps x e work answer steps =
      rw (sheet_refused sheet x e)
      (other_than_0 [] (outcome_of (Paper.refused (fault_of x.fault) x.place) work answer) answer steps (fault_not_0 (fault_of x.fault)))

  -- the question of a good sheet, searched over every character
  pub searched_steps : (s : Sheet) → sheet_of (bodies_of sheet) (Paper.read_sheet sheet) ≡ Ok s
      → (work answer steps after worked stepped : List ℕ) (end : StepsEnded)
      → SearchedSteps s.question work answer steps worked (steps_run end after stepped)
      → told_steps (Ok end) after worked stepped ≡ steps_outcome sheet work answer steps
  unfolding steps_outcome
  searched_steps s e work answer steps after worked stepped end p =
      let a = sheet_asks sheet s e in
      let q = a.question in
      let g = sheet_good sheet q a.good in
      rw a.good
      (steps_told_all q g.left g.right (hidden_searchable q g) (bodies_of sheet) s.question a.is work answer steps worked (steps_run end after stepped) p)

-- The two promises, from the first.
pub steps_kept : (sheet work answer steps : List ℕ) (o : StepsOutcome) → o ≡ steps_outcome sheet work answer steps
    → (o ≡ steps_outcome sheet work answer steps) × StepsPromised (Paper.read_sheet sheet) work answer steps o
steps_kept sheet work answer steps o e =
    (e, subst (StepsPromised (Paper.read_sheet sheet) work answer steps) (sym e) (sheet_steps_promised sheet work answer steps))
