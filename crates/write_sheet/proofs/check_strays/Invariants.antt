-- `check_strays` meets its contract. The loop's invariant: no field before f is stray (`Checking`).
use Rattle.paper_write.specs.Laying.{both_sides}
use Rattle.base_editions.specs.Editions.{paper_edition}
use Rattle.write_sheet.proofs.StraysChecked.{Checking}
use Rattle.write_sheet.proofs.check_strays.Given as goal

abbrev pub invariant-loop-f : goal.invariant-loop-f
invariant-loop-f l = Checking (both_sides (paper_edition l.edition) l.left l.right) l.lengths l.start l.at l.f
