-- `steps_length` adds up the bytes of the records. The loop's invariant: those added and those of the way to the present slot make the length. The
-- slot's number falls, and a record has at most four bytes, so the sum fits.
use Prim.Native.Nat.{◌+◌, ◌*◌, ◌≤◌}
use mathlib.Core.Path.{◌≡◌}
use lib.ListN.{length}
use Rattle.search_steps.specs.WaySteps.{way_steps}
use Rattle.search_steps.proofs.steps_length.Given as goal

abbrev pub invariant-loop-i : goal.invariant-loop-i
invariant-loop-i l =
    (l.n + 4 * l.i ≤ 4 * l.last.number) × (l.n + length (way_steps l.last.work.now l.i) ≡ length (way_steps l.last.work.now l.last.number))

abbrev pub decreases-loop-i : goal.decreases-loop-i
decreases-loop-i l = l.i
