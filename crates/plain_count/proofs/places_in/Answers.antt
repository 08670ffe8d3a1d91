-- `places_in` meets its contract: a mask has no more zeros below its lowest digit than there are places.
use Prim.Native.Nat.{◌+◌, ◌/◌}
use native.Mathlib.Omega.{arith}
use lib.Count.{trailing_le}
use Rattle.base_places.specs.Masks.{places}
use Rattle.plain_count.proofs.places_in.Goals as goal

pub overflow_add-result-2 : goal.overflow_add-result-2
overflow_add-result-2 c = record { fits = omega (arith, trailing_le places (c.args.taken / 2 + 1)) }
