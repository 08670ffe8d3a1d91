-- `entered` walks along the links of a bucket. The loop's invariant: where the walk stands. Follows from the laws of the walk.
use Prim.Native.Nat.{◌+◌, ◌≤◌, ◌<◌}
use mathlib.Core.List.{List}
use Rattle.base_codes.specs.Coded.{Coded}
use Rattle.search_buckets.specs.Buckets.{Sought}
use Rattle.search_slots.specs.Slots.{Slot}
use Rattle.search_buckets.proofs.Chained.{Walked}
use Rattle.search_buckets.proofs.entered.Given as goal

abbrev pub invariant-loop-next : goal.invariant-loop-next
invariant-loop-next l =
    (l.above ≤ l.n + 1) × (0 < l.above) × ((k : Coded) (ss : List Slot) → Sought l.work l.key l.n l.newest k ss → Walked l.work k ss l.above l.next)

abbrev pub decreases-loop-next : goal.decreases-loop-next
decreases-loop-next l = l.above
