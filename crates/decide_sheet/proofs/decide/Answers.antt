-- `decide`, the library's second entry, meets its contract: the whole decision, and what is promised of it. Follows from `settled_told` and
-- `sheet_decided`.
use mathlib.Core.Path.{sym}
use Rattle.decide_sheet.proofs.DecisionPromised.{refused_told, asked_told, promised}
use Rattle.decide_sheet.proofs.decide.Goals as goal

pub returns-in-Err : goal.returns-in-Err
returns-in-Err c = promised _ _ _ _ (refused_told c.args.sheet.now _ (sym c.in-Err.ensures) c.args.work.now c.args.answer.now)

pub returns-in-Ok : goal.returns-in-Ok
returns-in-Ok c =
    let a = c.args in
    promised _ _ _ _ (asked_told a.sheet.now _ (sym c.in-Ok.ensures) a.work.now a.answer.now _ _ _ c.decide-settled.ensures)
