-- `bucket_of` gives a key's bucket. Follows from what `hash` promises.
use Prim.Native.Nat.{ℕ, ◌%◌, ◌<◌}
use native.Mathlib.Nat.{mod-lt}
use native.Mathlib.Omega.{arith}
use mathlib.Core.Path.{ap₂}
use Rattle.search_buckets.proofs.bucket_of.Goals as goal

pub returns-then-slots-eq0 : goal.returns-then-slots-eq0
returns-then-slots-eq0 c l h = absurd (omega (arith, c.if-slots-eq0.true, c.slots_in-slots.ensures))

pub returns-then-key-ne-KEY : goal.returns-then-key-ne-KEY
returns-then-key-ne-KEY c l h = absurd (c.if-key-ne-KEY.true l)

pub returns : goal.returns
returns c l h =
    let some : 0 < c.slots_in-slots.result = omega (arith, c.slots_in-slots.ensures) in
    (rw (← c.slots_in-slots.ensures) (mod-lt c.hash.result some), ap₂ (λ (a b : ℕ). a % b) c.hash.ensures c.slots_in-slots.ensures)
