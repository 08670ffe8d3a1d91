-- `taking_among` meets its contract. The loop's invariant: the fields below `f` have their own rows, cut (`Behind`).
use Rattle.base_places.specs.declared.PlaceTables.{PlaceTables}
use Rattle.search_tables.specs.Cut.{cut_row}
use Rattle.search_tables.proofs.Behind.{Behind}
use Rattle.search_tables.proofs.taking_among.Given as goal

abbrev pub invariant-loop-f : goal.invariant-loop-f
invariant-loop-f l = Behind (λ (t : PlaceTables). cut_row l.characters l.among t.taking) l.own l.initial.parts l.parts l.f
