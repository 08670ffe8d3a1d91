-- `moving::close` meets its contract. Assumes nothing.
use native.Mathlib.Omega.{arith}
use mathlib.Core.Path.{sym, ◌∙◌}
use Rattle.catalogue_bytes.proofs.Within.{not_closed, is_closed}
use Rattle.catalogue_bytes.proofs.close.Goals as goal

pub returns-then-room-n : goal.returns-then-room-n
returns-then-room-n c = let a = c.args in not_closed a.at a.n a.catalogue.now (omega (arith, c.if-room-n.true))

pub returns-then-room-n-2 : goal.returns-then-room-n-2
returns-then-room-n-2 c = let a = c.args in not_closed a.at a.n a.catalogue.now (omega (arith, c.if-room-n.false, c.if-room-n-2.true))

pub returns : goal.returns
returns c =
    let a = c.args in
    c.close_gap.ensures ∙ sym (is_closed a.at a.n a.catalogue.now (omega (arith, c.if-room-n.false, c.if-room-n-2.false)))
