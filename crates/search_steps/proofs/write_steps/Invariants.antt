-- `write_steps` stores the records of the way, the last one first. The loop's invariant: the records of the way to the present slot and what is stored
-- already make the whole; their length is the place. The slot's number falls.
use Prim.Native.Nat.{◌≤◌}
use mathlib.Core.Path.{◌≡◌}
use mathlib.Core.List.{◌++◌}
use lib.ListN.{length, drop}
use Rattle.search_steps.specs.WaySteps.{way_steps}
use Rattle.search_steps.proofs.write_steps.Given as goal

abbrev pub invariant-loop-i : goal.invariant-loop-i
invariant-loop-i l =
    (l.i ≤ l.last.number)
    × (length l.out ≡ length l.initial.out)
    × (l.end ≤ length l.out)
    × (l.end ≡ length (way_steps l.last.work.now l.i))
    × (way_steps l.last.work.now l.i ++ drop l.end l.out ≡ way_steps l.last.work.now l.last.number)

abbrev pub decreases-loop-i : goal.decreases-loop-i
decreases-loop-i l = l.i
