-- `put_fields` meets its contract. The loop's invariant: the lines of the standing fields below f were put.
use mathlib.Core.Path.{◌≡◌}
use lib.ListN.{length}
use Rattle.paper.specs.Lists.{upto, keep}
use Rattle.paper.specs.Question.{Question}
use Rattle.read_sheet.specs.SheetRead.{bodies_of}
use Rattle.base_editions.specs.Editions.{paper_edition}
use Rattle.base_put.specs.Counted.{Counted}
use Rattle.base_question.specs.Standings.{is_counted}
use Rattle.script_sheet.specs.WrittenOut.{AsksIn, fields_lines}
use Rattle.script_sheet.proofs.put_fields.Given as goal

abbrev pub invariant-loop-f : goal.invariant-loop-f
invariant-loop-f l =
    (length l.out ≡ length l.initial.out)
    × ((q : Question) → AsksIn (paper_edition l.edition) l.sheet q → l.bodies ≡ bodies_of l.sheet
    → Counted l.initial.out l.out l.at l.end (fields_lines (paper_edition l.edition) q (keep (is_counted l.counts) (upto l.f))))
