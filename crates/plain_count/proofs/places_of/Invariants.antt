-- `places_of` meets its contract. The loop's invariant: the places of the fields below f are counted (`Counted`).
use Prim.Native.Nat.{ℕ}
use mathlib.Core.List.{List}
use lib.ListN.{get_or}
use Rattle.paper.specs.Numbers.{fields}
use Rattle.base_places.specs.Masks.{within}
use Rattle.base_question.proofs.Counts.{Counted}
use Rattle.base_places.specs.declared.PlaceTables.{PlaceTables}
use Rattle.plain_count.specs.StandingsCoded.{no_tables, places_by}
use Rattle.plain_count.proofs.places_of.Given as goal

abbrev pub places_at : ℕ → List PlaceTables → ℕ → ℕ
places_at n tables f = places_by n (get_or tables f no_tables).taking

abbrev pub invariant-loop-f : goal.invariant-loop-f
invariant-loop-f l = Counted (places_at (within l.fn.question.alphabet.characters) l.fn.question.fields) fields l.places l.f
