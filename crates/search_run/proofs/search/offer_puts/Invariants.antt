-- `search::offer_puts` meets its contract. The loop's invariant: the children by the characters below c are offered. Follows from the
-- laws of the characters that are left out.
use Prim.Native.Nat.{◌≤◌}
use mathlib.Core.Path.{◌≡◌}
use lib.ListN.{length}
use Rattle.paper.specs.Lists.{each, upto}
use Rattle.search_fronts.specs.Fronts.{with_row}
use Rattle.base_places.specs.Masks.{within}
use Rattle.base_codes.specs.Coded.{Coded}
use Rattle.search_run.specs.Lent.{Offers}
use Rattle.search_run.proofs.search.Puts.{by_character}
use Rattle.search_run.proofs.search.offer_puts.Given as goal

abbrev pub invariant-loop-c : goal.invariant-loop-c
invariant-loop-c l =
    (l.c ≤ within l.tables.characters)
    × (length l.work ≡ length l.initial.work)
    × Offers l.room l.parent l.s l.initial.work l.initial.now l.work l.now (λ (k : Coded). each (by_character k (with_row l.tables.taking.now l.left) (with_row l.tables.taking.now l.right)) (upto l.c))
