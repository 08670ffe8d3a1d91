-- `put` puts the bytes from an offset on. The loop's invariant: the first i are put. Follows from the laws of `paste`.
use native.Mathlib.Numerals.{add-one}
use native.Mathlib.Omega.{arith}
use lib.ListN.{length-set}
use lib.Seq.{paste-suc}
use Rattle.catalogue_bytes.proofs.put_bytes.Goals as goal

pub loop-i-preserved : goal.loop-i-preserved
loop-i-preserved c = (
  simp length-set c.loop-i.invariant.0,
  rw (c.loop-i.invariant.1, add-one c.loop-i.i)
      (paste-suc c.args.catalogue.now c.args.at c.args.bytes.now c.loop-i.i 0 (omega arith) (omega arith)),
)
