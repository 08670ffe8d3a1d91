-- `plain` meets its contract: the whole, and what is promised of it. Follows from the laws of `EngineTold`.
use mathlib.Core.Path.{sym, ap, ◌∙◌}
use Rattle.std.proofs.lemmas.Result.{err_from_is_err_and}
use Rattle.plain_answer.specs.Answered.{PlainAnswer}
use Rattle.plain_answer.specs.EngineNumbers.{told_plain}
use Rattle.plain_sheet.proofs.EngineTold.{fault_told, asked_told, promised}
use Rattle.plain_sheet.proofs.plain.Goals as goal

pub returns-in_err-read_into : goal.returns-in_err-read_into
returns-in_err-read_into c =
    let h = err_from_is_err_and c.from_residual.result c.from_residual.ensures.1 in
    let p = promised _ _ _ (fault_told c.args.sheet.now _ (sym c.in_err-read_into.ensures) c.args.bits.now) in
    rw (h.1, h.2) (record { whole = p.0; promised = p.1 })

pub returns : goal.returns
returns c =
    let p = promised _ _ _ (ap (λ (a : PlainAnswer). told_plain a c.clear.new.work) c.answer_of.ensures ∙ asked_told _ _ (sym c.in_ok-read_into.ensures) c.args.bits.now _ c.clear.ensures c.answered-told.ensures) in
    record { whole = p.0; promised = p.1 }
