-- `followers` meets its contract. The loop's invariant: r holds what may follow some place below i of the set (`gathered`). Where nothing of the
-- set is left from i on, that is all (`gathered_rest`); else the next place of the set is below `places`, and its followers are added
-- (`next_below`, `gathered_next`).
use Prim.Native.Nat.{◌≤◌, ◌-◌}
use mathlib.Core.Path.{◌≡◌}
use Rattle.base_places.specs.Masks.{places}
use Rattle.base_places.proofs.Gathered.{gathered}
use Rattle.base_places.proofs.followers.Given as goal

abbrev pub invariant-loop-i : goal.invariant-loop-i
invariant-loop-i l = (l.i ≤ places) × (l.r ≡ gathered l.follow l.set l.i)

abbrev pub decreases-loop-i : goal.decreases-loop-i
decreases-loop-i l = places - l.i
