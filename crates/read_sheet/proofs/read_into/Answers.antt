-- `read_into` meets its contract: behind the sheet that was read without it, the check on strays decides (`StraysChecked`). Assumes nothing.
use Rattle.std.proofs.Common.{◌<◌, sym, ◌∙◌, arith}
use Rattle.std.proofs.lemmas.Result.{err_from_is_err_and}
use Rattle.paper.specs.Numbers.{fields}
use Rattle.read_sheet.proofs.StraysChecked.{fault_since, stray_first, none_stray}
use Rattle.read_sheet.proofs.read_into.Goals.{In-Some}
use Rattle.read_sheet.proofs.read_into.Goals as goal

pub returns-in_err-edition : goal.returns-in_err-edition
returns-in_err-edition c =
    let p = err_from_is_err_and c.from_residual.result c.from_residual.ensures.1 in
    rw (p.1, p.2) (fault_since c.args.s.now c.in_err-edition.field-0.0 (sym c.in_err-edition.ensures))

-- the first stray is a field
known : (c : In-Some) → c.in-Some.f < fields
known c = (stray_first c.args.s.now _ (sym c.in_ok-edition.ensures) c.in-Some.f (sym c.first_stray.ensures ∙ c.in-Some.is)).0

pub offset_bounds-question-f : goal.offset_bounds-question-f
offset_bounds-question-f c = omega (arith, known (goal.at.offset_bounds-question-f c).In-Some)

pub bounds-question-f : goal.bounds-question-f
bounds-question-f c = known (goal.at.bounds-question-f c).In-Some

pub returns-in-Some : goal.returns-in-Some
returns-in-Some c =
    rw c.mark_of.ensures
    (stray_first c.args.s.now _ (sym c.in_ok-edition.ensures) c.in-Some.f (sym c.first_stray.ensures ∙ c.in-Some.is)).1

pub returns : goal.returns
returns c = none_stray c.args.s.now _ (sym c.in_ok-edition.ensures) (sym c.first_stray.ensures ∙ c.in_default.is)
