-- `put_records` meets its contract. The loop's invariant: the records of the standing fields below f were put.
use mathlib.Core.Path.{◌≡◌}
use lib.ListN.{length}
use Rattle.base_codes.specs.Coded.{denoted}
use Rattle.base_put.specs.Counted.{Counted}
use Rattle.search_children.specs.Laid.{tables_lent}
use Rattle.play_texts.proofs.Putting.{below}
use Rattle.play_texts.proofs.put_records.Given as goal

abbrev pub invariant-loop-f : goal.invariant-loop-f
invariant-loop-f l =
    (length l.out ≡ length l.initial.out) × Counted l.initial.out l.out 0 l.end (below (tables_lent l.tables) (denoted l.first) l.steps l.f)
