-- `put_sets` stores the masks one behind the other. The loop's invariant: so many masks are stored. Follows from `part_back`.
use mathlib.Core.Path.{◌≡◌}
use lib.ListN.{length}
use Rattle.search_slots.proofs.Sets.{sets_over}
use Rattle.search_slots.proofs.put_sets.Given as goal

abbrev pub invariant-loop-i : goal.invariant-loop-i
invariant-loop-i l = (length l.to ≡ length l.initial.to) × (l.to ≡ sets_over l.i l.sets l.initial.to)
