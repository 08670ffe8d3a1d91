-- `bytes_needed` meets its contract: the whole, and what is promised of it. Follows from the laws of `EngineTold`.
use mathlib.Core.Path.{sym, ap, ◌∙◌}
use Rattle.std.proofs.lemmas.Result.{err_from_is_err_and}
use Rattle.plain_answer.specs.EngineNumbers.{told_needed}
use Rattle.plain_sheet.proofs.EngineTold.{fault_needs, needs_told, needs_kept}
use Rattle.plain_sheet.proofs.bytes_needed.Goals as goal

pub returns-in_err-read_into : goal.returns-in_err-read_into
returns-in_err-read_into c =
    let h = err_from_is_err_and c.from_residual.result c.from_residual.ensures.1 in
    let p = needs_kept _ _ (fault_needs c.args.sheet.now _ (sym c.in_err-read_into.ensures)) in
    rw (h.1, h.2) (record { whole = p.0; promised = p.1 })

pub returns : goal.returns
returns c =
    let p = needs_kept _ _ (ap told_needed c.needs.ensures ∙ needs_told _ _ (sym c.in_ok-read_into.ensures) c.answered.ensures) in
    record { whole = p.0; promised = p.1 }
