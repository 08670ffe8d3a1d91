-- `moving::put` meets its contract. Assumes nothing.
use native.Mathlib.Omega.{arith}
use mathlib.Core.Path.{sym, ◌∙◌}
use Rattle.catalogue_bytes.proofs.Within.{not_put, is_put}
use Rattle.catalogue_bytes.proofs.put.Goals as goal

pub returns-then-room-bytes : goal.returns-then-room-bytes
returns-then-room-bytes c = let a = c.args in not_put a.at a.bytes.now a.catalogue.now (omega (arith, c.if-room-bytes.true))

pub returns-then-room-bytes-2 : goal.returns-then-room-bytes-2
returns-then-room-bytes-2 c = let a = c.args in not_put a.at a.bytes.now a.catalogue.now (omega (arith, c.if-room-bytes.false, c.if-room-bytes-2.true))

pub returns : goal.returns
returns c =
    let a = c.args in
    c.put_bytes.ensures ∙ sym (is_put a.at a.bytes.now a.catalogue.now (omega (arith, c.if-room-bytes.false, c.if-room-bytes-2.false)))
