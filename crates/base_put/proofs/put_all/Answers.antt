-- `put_all` meets its contract. The loop's invariant: the bytes so far were put.
use native.Mathlib.Omega.{arith}
use lib.Seq.{take_all, take-suc}
use native.Mathlib.Numerals.{add-one}
use Rattle.base_put.proofs.Counting.{counted_none, counted_then}
use Rattle.base_put.proofs.put_all.Goals as goal

pub loop-byte-init : goal.loop-byte-init
loop-byte-init c = counted_none

pub loop-byte-preserved : goal.loop-byte-preserved
loop-byte-preserved c =
    let bytes = c.args.bytes.now in
    let i = c.loop-byte.byte-index in
    rw (add-one i, take-suc bytes i 0 (omega arith)) (counted_then c.loop-byte.invariant c.put-end.ensures)

pub returns : goal.returns
returns c =
    let bytes = c.args.bytes.now in
    rw (take_all c.loop-byte.byte-index bytes (omega arith)) at c.loop-byte.invariant
