-- `place_sets::link` meets its contract. The loop adds the linked sets at the places of `last`, one after the other (`Adding`); to the others
-- nothing is added.
use Prim.Native.Nat.{◌-◌}
use Rattle.base_places.specs.Masks.{places}
use Rattle.read_pattern.proofs.Adding.{Adding, linked}
use Rattle.read_pattern.proofs.place_sets.link.Given as goal

abbrev pub invariant-loop-i : goal.invariant-loop-i
invariant-loop-i l = Adding places (linked l.last l.first) l.initial.follow l.follow l.i

abbrev pub decreases-loop-i : goal.decreases-loop-i
decreases-loop-i l = places - l.i
