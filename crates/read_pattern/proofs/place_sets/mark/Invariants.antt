-- `place_sets::mark` meets its contract. The loop adds the set at the characters from lo to hi (`Adding`); to the others nothing is added.
use Rattle.paper.specs.Numbers.{most_characters}
use Rattle.read_pattern.proofs.Adding.{Adding, marked}
use Rattle.read_pattern.proofs.place_sets.mark.Given as goal

abbrev pub invariant-loop-c : goal.invariant-loop-c
invariant-loop-c l = Adding most_characters (marked l.lo l.hi l.set) l.initial.taking l.taking l.c
