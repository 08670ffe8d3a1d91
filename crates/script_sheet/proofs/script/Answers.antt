-- `script` meets its contract, by what reading the sheet tells and by how long its script is (`Answered`).
use Prim.Native.Nat.{ℕ}
use mathlib.Core.Path.{◌≡◌, sym, ap, ◌∙◌, subst}
use mathlib.Core.List.{List}
use Rattle.std.proofs.Common.{Ok}
use Rattle.std.proofs.lemmas.Result.{err_from_is_err_and}
use Rattle.paper.specs.Sheet.{read_sheet}
use Rattle.read_sheet.specs.SheetRead.{bodies_of, sheet_of}
use Rattle.read_sheet.specs.declared.Sheet.{Sheet}
use Rattle.paper.specs.Alphabet.{edition_of}
use Rattle.base_editions.specs.Editions.{paper_edition}
use Rattle.base_editions.proofs.Same.{same_edition}
use Rattle.base_question.specs.declared.Question.{Question}
use Rattle.read_sheet.proofs.SheetStruct.{Asking, sheet_asks}
use Rattle.read_sheet.proofs.SheetPatterns.{sheet_within}
use Rattle.script_sheet.specs.WrittenOut.{AsksIn, BodiesWithin}
use Rattle.script_sheet.proofs.ScriptAnswered.{and_promised, sheet_at_fault, no_room, with_room}
use Rattle.script_sheet.proofs.script.Goals as goal

pub returns-in_err-edition : goal.returns-in_err-edition
returns-in_err-edition c =
    let p = err_from_is_err_and c.from_residual.result c.from_residual.ensures.1 in
    let told = and_promised c.args.sheet.now c.args.out.now _ (sheet_at_fault c.args.sheet.now c.args.out.now _ (sym c.in_err-edition.ensures)) in
    record { whole = rw (p.1, p.2) told.0; promised = rw (p.1, p.2) told.1 }

-- what a good sheet asks
module _ (sheet : List ℕ) (r : Sheet) (read : sheet_of (bodies_of sheet) (read_sheet sheet) ≡ Ok r) where
  asking : Asking sheet r
  asking = sheet_asks sheet r read

  within : BodiesWithin sheet r.question.bodies
  within = subst (BodiesWithin sheet) (sym (ap (λ (x : Question). x.bodies) asking.is)) (sheet_within sheet asking.question asking.good)

  asks-in : AsksIn (paper_edition r.edition) sheet asking.question
  asks-in = record { asks = asking.good; its_edition = ap paper_edition asking.edition ∙ same_edition (edition_of asking.question.alphabet) }

pub put_script-length-requires : goal.put_script-length-requires
put_script-length-requires c = within c.args.sheet.now _ (sym c.in_ok-edition.ensures)

pub returns-then-out-length : goal.returns-then-out-length
returns-then-out-length c =
    let sheet = c.args.sheet.now in
    let a = asking sheet _ (sym c.in_ok-edition.ensures) in
    let e = asks-in sheet _ (sym c.in_ok-edition.ensures) in
    let told = and_promised sheet c.args.out.now _ (no_room sheet c.args.out.now a.question a.good (c.put_script-length.ensures a.question e a.is) c.if-out-length.true) in
    record { whole = told.0; promised = told.1 }

pub put_script-requires : goal.put_script-requires
put_script-requires c = within c.args.sheet.now _ (sym c.in_ok-edition.ensures)

pub returns : goal.returns
returns c =
    let sheet = c.args.sheet.now in
    let a = asking sheet _ (sym c.in_ok-edition.ensures) in
    let e = asks-in sheet _ (sym c.in_ok-edition.ensures) in
    let told = and_promised sheet c.args.out.now _
    (with_room sheet c.args.out.now a.question a.good (c.put_script-length.ensures a.question e a.is) c.if-out-length.false
    (c.put_script.ensures a.question e a.is)) in
    record { whole = told.0; promised = told.1 }
