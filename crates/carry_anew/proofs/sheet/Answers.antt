-- `sheet` meets its contract, by what is put of it (`AnewAnswered`).
use mathlib.Core.Path.{◌≡◌, subst}
use borrow.Author.Rules.{rules}
use Rattle.std.specs.Prelude.{Err}
use Rattle.carry_anew.specs.Anew.{SheetRead}
use Rattle.carry_anew.specs.declared.RewriteError.TheVariants.{Refused}
use Rattle.carry_anew.proofs.AnewAnswered.{sheet_at_fault, sheet_put}
use Rattle.carry_anew.proofs.sheet.Goals as goal

pub returns-in_err-read : goal.returns-in_err-read
returns-in_err-read c x h =
    let e : c.from_residual.result ≡ Err (Refused c.in_err-read.field-0.0) = search rules in
    rw e (sheet_at_fault _ _ _ x _ (subst (SheetRead _ _ x) c.in_err-read.was h))

pub returns : goal.returns
returns c x h =
    sheet_put _ _ _ x _ (subst (SheetRead _ _ x) c.in_ok-read.was h) _ c.records_from-from.ensures _ c.standings-counts.ensures _ c.write_out.ensures
