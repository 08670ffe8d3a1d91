-- `put_number` writes the bytes of a number. The loop's invariant: so many are written, and the others are those of the rest.
-- Follows from `one_more_byte`.
use Prim.Native.Nat.{◌-◌}
use native.Mathlib.Omega.{arith}
use mathlib.Core.Path.{◌≡◌, refl}
use lib.ListN.{length, length-set}
use Rattle.search_slots.specs.LowFirst.{low_bytes}
use Rattle.search_slots.proofs.numbers.Bytes.{one_more_byte, all_bytes}
use Rattle.search_slots.proofs.numbers.put_number.Goals as goal

pub loop-byte-init : goal.loop-byte-init
loop-byte-init c =
    let all : length c.args.to.now - 0 ≡ length c.args.to.now = omega arith in
    (refl, rw all)

pub loop-byte-preserved : goal.loop-byte-preserved
loop-byte-preserved c =
    let n = length c.args.to.now in (
      simp length-set c.loop-byte.invariant.0,
      one_more_byte n c.loop-byte.byte-index c.loop-byte.rest c.loop-byte.to (low_bytes n c.args.number) (omega arith) c.loop-byte.invariant.0 c.loop-byte.invariant.1,
    )

pub returns : goal.returns
returns c =
    let n = length c.args.to.now in
    let e : c.loop-byte.byte-index ≡ n = omega arith in
    all_bytes n c.args.number c.loop-byte.rest c.loop-byte.to c.loop-byte.invariant.0
    (rw e at c.loop-byte.invariant.1)
