-- `put_from` meets its contract. The loop's invariant: the fields before f are put (`Going`).
use mathlib.Core.Path.{◌≡◌}
use lib.ListN.{length}
use Rattle.carry_records.proofs.Records.{Going}
use Rattle.carry_records.proofs.put_from.Given as goal

abbrev pub invariant-loop-f : goal.invariant-loop-f
invariant-loop-f l =
    (length l.out ≡ length l.initial.out) × Going l.change l.initial.out l.out l.at l.end l.s l.from l.next l.f l.bodies l.counts
