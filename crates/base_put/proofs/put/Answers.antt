-- `put` meets its contract: past the end nothing is stored.
use mathlib.Core.Path.{sym}
use Rattle.base_put.proofs.Counting.{set_outside}
use Rattle.base_put.proofs.put.Goals as goal

pub returns-then-out-at : goal.returns-then-out-at
returns-then-out-at c =
    let a = c.args in
    record { bytes = sym (set_outside a.out.now a.at a.byte c.if-out-at.true); behind = c.next_place.ensures }
