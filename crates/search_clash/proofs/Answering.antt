-- From what reading a sheet hands on to the entry's promises: a refused sheet, a good one whose question was searched, and demands 1, 2 and 3.
-- Follows from `search_told_all`, the definition of the outcome and the demands' theorems.
use Prim.Native.Nat.{ℕ}
use mathlib.Core.Path.{◌≡◌, sym, subst}
use mathlib.Core.List.{List}
use Rattle.std.specs.Prelude.{Ok, Err}
use Rattle.paper.specs.Buffers.{Demand1}
use Rattle.paper.specs.Demands.{Demand2, Demand3}
use Rattle.paper.specs.Outcome.{Outcome, outcome}
use Rattle.paper.specs.Sheet.{read_sheet}
use Rattle.paper_laws.proofs.sheets.Asked.{sheet_good}
use Rattle.paper_laws.proofs.sheets.Hidden.{hidden_searchable}
use Rattle.paper_laws.proofs.demands.Demand1.{sheet_demand_1}
use Rattle.paper_laws.proofs.demands.Demand2.{sheet_demand_2}
use Rattle.paper_laws.proofs.demands.Demand3.{sheet_demand_3}
use Rattle.base_answers.specs.AnswerNumbers.{told}
use Rattle.base_answers.specs.declared.Ended.{Ended}
use Rattle.base_answers.specs.declared.Refusal.{Refusal}
use Rattle.search_question.proofs.Searched.{SearchedAll, search_told_all}
use Rattle.read_sheet.specs.SheetRead.{bodies_of, sheet_of}
use Rattle.read_sheet.specs.declared.Sheet.{Sheet}
use Rattle.read_sheet.proofs.SheetStruct.{sheet_asks, sheet_refused}

module _ (sheet : List ℕ) where
  -- a refused sheet changes no buffer
  pub refused_told : (x : Refusal) → sheet_of (bodies_of sheet) (read_sheet sheet) ≡ Err x
      → (work answer : List ℕ) → told (Err x) answer work ≡ outcome sheet work answer
  unfolding outcome
  refused_told x e work answer = rw (sheet_refused sheet x e)

  -- the question of a good sheet, searched over every character
  pub searched_told : (s : Sheet) → sheet_of (bodies_of sheet) (read_sheet sheet) ≡ Ok s
      → (work answer after worked : List ℕ) (end : Ended) → SearchedAll s.question work answer after worked end
      → told (Ok end) after worked ≡ outcome sheet work answer
  unfolding outcome
  searched_told s e work answer after worked end p =
      let a = sheet_asks sheet s e in
      let q = a.question in
      let g = sheet_good sheet q a.good in
      rw a.good
      (search_told_all q g.left g.right (hidden_searchable q g) (bodies_of sheet) s.question a.is work answer after worked end p)

-- The entry's four promises, from the first.
pub promised : (sheet work answer : List ℕ) (o : Outcome) → o ≡ outcome sheet work answer
    → (o ≡ outcome sheet work answer)
    × (Demand1 (read_sheet sheet) work answer o × (Demand2 (read_sheet sheet) work answer o × Demand3 (read_sheet sheet) work o))
promised sheet work answer o e =
    let one = subst (Demand1 (read_sheet sheet) work answer) (sym e) (sheet_demand_1 sheet work answer) in
    let two = subst (Demand2 (read_sheet sheet) work answer) (sym e) (sheet_demand_2 sheet work answer) in
    let three = subst (Demand3 (read_sheet sheet) work) (sym e) (sheet_demand_3 sheet work answer) in
    (e, (one, (two, three)))
