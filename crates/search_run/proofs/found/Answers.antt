-- `found` meets its contract: each arm names the end for what became of the records. Follows from what `answer_clash` promises.
use mathlib.Core.Path.{sym, ap}
use Rattle.search_run.specs.Ended.{clash_how}
use Rattle.search_run.proofs.Concluding.{told_by}
use Rattle.search_run.proofs.WaySpelt.{slot_there, answered_alike}
use Rattle.search_run.proofs.found.Goals as goal

pub returns-in-None : goal.returns-in-None
returns-in-None c w =
    told_by w.slots _ (answered_alike w (c.answer_clash.ensures (slot_there w))) (ap clash_how (sym c.in-None.is))

pub returns-in-Some : goal.returns-in-Some
returns-in-Some c w =
    told_by w.slots _ (answered_alike w (c.answer_clash.ensures (slot_there w))) (ap clash_how (sym c.in-Some.is))
