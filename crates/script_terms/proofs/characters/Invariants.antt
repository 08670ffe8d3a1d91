-- `characters` meets its contract. The loop's invariant: those below c were put.
use Prim.Native.Nat.{◌-◌}
use mathlib.Core.Path.{◌≡◌}
use lib.ListN.{length}
use Rattle.paper.specs.Lists.{from, each}
use Rattle.paper.specs.Alphabet.{edition_1}
use Rattle.paper_script.specs.Script.{next_character}
use Rattle.base_put.specs.Counted.{Counted}
use Rattle.script_terms.proofs.characters.Given as goal

abbrev pub invariant-loop-c : goal.invariant-loop-c
invariant-loop-c l =
    (length l.out ≡ length l.initial.out) × Counted l.initial.out l.out l.at l.end (each (next_character edition_1) (from l.lo (l.c - l.lo)))
