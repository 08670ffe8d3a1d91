-- `search::search` meets its contract. The loop's invariant: whatever search the buffer and the run stood for where the loop begins,
-- they stand for one that ends as that does, with slot k to be taken next. Follows from the laws of turns.
use Prim.Native.Nat.{◌-◌, ◌≤◌}
use mathlib.Core.Path.{◌≡◌}
use lib.ListN.{length}
use Rattle.search_run.specs.Lent.{Lent, tables_within}
use Rattle.search_run.specs.Run.{Running}
use Rattle.search_run.proofs.search.Turns.{Standing}
use Rattle.search_run.proofs.search.search.Given as goal

abbrev pub invariant-loop-run : goal.invariant-loop-run
invariant-loop-run l =
    (l.k ≤ l.room)
    × (l.run.entered ≤ l.room)
    × (length l.work ≡ length l.initial.work)
    × ((R : Running) → Lent l.initial.work l.initial.run R → Standing (tables_within l.tables) l.room R l.work l.run l.k)

abbrev pub decreases-loop-run : goal.decreases-loop-run
decreases-loop-run l = l.room - l.k
