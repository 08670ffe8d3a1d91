-- `places_by` meets its contract. The loop's invariant: the places that take a character below c are gathered, those of what is left are not.
use mathlib.Core.Path.{◌≡◌}
use lib.ListN.{take, drop}
use Rattle.plain_count.specs.StandingsCoded.{taken_too}
use Rattle.plain_count.proofs.places_by.Given as goal

abbrev pub invariant-loop-its : goal.invariant-loop-its
invariant-loop-its l = taken_too l.taken (drop l.its-index (take l.n l.taking)) ≡ taken_too 0 (take l.n l.taking)
