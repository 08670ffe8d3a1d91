-- `cut` meets its contract. The loop's invariant: the row is cut to the characters below `c` (`CutSteps`).
use mathlib.Core.Path.{◌≡◌}
use Rattle.search_tables.specs.Cut.{cut_row}
use Rattle.search_tables.proofs.cut.Given as goal

abbrev pub invariant-loop-c : goal.invariant-loop-c
invariant-loop-c l = l.masks ≡ cut_row l.c l.among l.row
