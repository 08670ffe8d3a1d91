-- `steps` meets its contract: the whole outcome, and with it all that is promised. Follows from the laws of `StepsAnswering`.
use mathlib.Core.Path.{sym}
use Rattle.std.proofs.lemmas.Result.{err_from_is_err_and}
use Rattle.steps_sheet.proofs.StepsAnswering.{refused_steps, searched_steps, steps_kept}
use Rattle.steps_sheet.proofs.steps.Goals as goal

pub returns-in_err-question : goal.returns-in_err-question
returns-in_err-question c =
    let a = c.args in
    let h = err_from_is_err_and c.from_residual.result c.from_residual.ensures.1 in
    let p = steps_kept a.sheet.now a.work.now a.answer.now a.steps.now _
    (refused_steps a.sheet.now _ (sym c.in_err-question.ensures) a.work.now a.answer.now a.steps.now) in
    rw (h.1, h.2) (record { whole = p.0; promised = p.1 })

pub returns : goal.returns
returns c =
    let a = c.args in
    let s = c.search_steps in
    let p = steps_kept a.sheet.now a.work.now a.answer.now a.steps.now _
    (searched_steps a.sheet.now _ (sym c.in_ok-question.ensures) a.work.now a.answer.now a.steps.now s.new.answer s.new.work s.new.steps s.result
    (s.ensures.ended, s.ensures.work)) in
    record { whole = p.0; promised = p.1 }
