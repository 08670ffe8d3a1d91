-- `put_patterns` meets its contract. The loop's invariant: the fields before f are put (`Going`).
use mathlib.Core.Path.{◌≡◌}
use lib.ListN.{length}
use Rattle.base_editions.specs.Editions.{paper_edition}
use Rattle.write_sheet.proofs.FieldsPut.{Going}
use Rattle.write_sheet.proofs.put_patterns.Given as goal

abbrev pub invariant-loop-f : goal.invariant-loop-f
invariant-loop-f l =
    (length l.out ≡ length l.initial.out) × Going (paper_edition l.edition) l.lengths l.patterns l.initial.out l.out l.start l.at l.from l.f
