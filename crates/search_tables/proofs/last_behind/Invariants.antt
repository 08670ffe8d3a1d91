-- `last_behind` meets its contract. The loop's invariant: the fields below `f` have their own (`Behind`). Assumes nothing.
use Rattle.search_tables.specs.Tables.{last_of}
use Rattle.search_tables.proofs.Behind.{Behind}
use Rattle.search_tables.proofs.last_behind.Given as goal

abbrev pub invariant-loop-f : goal.invariant-loop-f
invariant-loop-f l = Behind last_of l.own l.initial.parts l.parts l.f
