-- `way`, the entry, meets its contract. Follows from the laws of `WayAnswered`.
use mathlib.Core.Path.{◌≡◌, sym, subst, ◌∙◌}
use borrow.Author.Rules.{rules}
use Rattle.std.specs.Prelude.{Ok, Err}
use Rattle.paper_way.specs.WayOutcome.{way}
use Rattle.way_question.specs.WaySpelt.{End, WayOn}
use Rattle.way_sheet.specs.WayNumbers.{told_way}
use Rattle.way_sheet.specs.declared.WayError.TheVariants.{Refused, Stopped}
use Rattle.way_sheet.proofs.WayAnswered.{handed_on, and_promised, sheet_at_fault, sheet_spelt}
use Rattle.way_sheet.proofs.way.Goals.{After-way}
use Rattle.way_sheet.proofs.way.Goals as goal

pub returns-in_err-read_into : goal.returns-in_err-read_into
returns-in_err-read_into c =
    let a = c.args in
    let given : c.from_residual.result ≡ Err (Refused c.in_err-read_into.field-0.0) = search rules in
    let said = and_promised a.sheet.now a.texts.now a.steps.now _ (rw given (sheet_at_fault a.sheet.now a.texts.now a.steps.now c.in_err-read_into.field-0.0 (sym c.in_err-read_into.ensures))) in
    record { whole = said.0; promised = said.1 }

-- the texts, spelt on the question that was read
spelt : (c : After-way) (e : End) → c.way.result ≡ e → let a = c.args in told_way (handed_on e) c.way.new.steps ≡ way a.sheet.now a.texts.now a.steps.now
spelt c e h =
    let a = c.args in
    let q = c.read_into.new.question in
    sheet_spelt a.sheet.now a.texts.now a.steps.now _ (sym c.in_ok-read_into.ensures) c.way.new.steps e
    (subst (WayOn q a.texts.now a.steps.now c.way.new.steps) h c.way.ensures)

pub returns-in_err-way : goal.returns-in_err-way
returns-in_err-way c =
    let a = c.args in
    let given : c.from_residual-in_err-way.result ≡ Err (Stopped c.in_err-way.field-0.0) = search rules in
    let said = and_promised a.sheet.now a.texts.now a.steps.now _ (rw given (spelt (goal.at.returns-in_err-way c).After-way (Err c.in_err-way.field-0.0) c.in_err-way.was)) in
    record { whole = said.0; promised = said.1 }

pub returns : goal.returns
returns c =
    let a = c.args in
    let said = and_promised a.sheet.now a.texts.now a.steps.now _ (spelt (goal.at.returns c).After-way (Ok c.in_ok-way.field-0) c.in_ok-way.was) in
    record { whole = said.0; promised = said.1 }
