-- `clash`, the library's entry, meets its contract: the whole outcome, and with it demands 1, 2 and 3. Follows from the laws of `Answering`.
use mathlib.Core.Path.{sym, ◌∙◌}
use Rattle.search_clash.proofs.Answering.{refused_told, searched_told, promised}
use Rattle.search_clash.proofs.clash.Goals as goal

pub returns-in-Err : goal.returns-in-Err
returns-in-Err c =
    let a = c.args in
    let p = promised a.sheet.now a.work.now a.answer.now _
    (refused_told a.sheet.now c.in-Err.refusal (sym c.in-Err.ensures) a.work.now a.answer.now) in
    record { whole = p.0; demand1 = p.1.0; demand2 = p.1.1.0; demand3 = p.1.1.1 }

pub returns-in-Ok : goal.returns-in-Ok
returns-in-Ok c =
    let a = c.args in
    let s = c.search_all in
    let p = promised a.sheet.now a.work.now a.answer.now _
    (searched_told a.sheet.now c.in-Ok.read (sym c.in-Ok.ensures) a.work.now a.answer.now s.new.answer s.new.work s.result
    (s.ensures.ended, (s.ensures.answer, s.ensures.work))) in
    record { whole = p.0; demand1 = p.1.0; demand2 = p.1.1.0; demand3 = p.1.1.1 }
