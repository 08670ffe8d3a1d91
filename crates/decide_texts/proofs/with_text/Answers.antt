-- `with_text` meets its contract, by what its parts ensure.
use mathlib.Core.Path.{◌∙◌}
use Rattle.decide_texts.proofs.TextTurns.{one_text, no_one_text}
use Rattle.decide_texts.proofs.with_text.Goals as goal

pub returns-in-Some : goal.returns-in-Some
returns-in-Some c =
    let a = c.args in
    let said = rw c.in-Some.is at c.endings.ensures in
    c.spelt.ensures ∙ one_text a.n a.asked a.own c.taken.result c.taken.ensures c.in-Some.its said.0 said.1

pub returns-in-None : goal.returns-in-None
returns-in-None c =
    let a = c.args in
    no_one_text a.n a.asked a.own c.taken.result c.taken.ensures (rw c.in-None.is at c.endings.ensures)
