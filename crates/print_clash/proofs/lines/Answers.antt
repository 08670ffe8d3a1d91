-- `lines` meets its contract: without room nothing is changed, with room the entry is asked. Follows from `no_room`, `with_room` and
-- `printed_lines`.
use Prim.Native.Nat.{ℕ}
use mathlib.Core.Path.{sym, ap, ◌∙◌}
use mathlib.Core.List.{List}
use Rattle.paper.specs.Outcome.{Outcome, outcome}
use Rattle.base_editions.specs.Editions.{paper_edition}
use Rattle.paper_print.specs.TextLines.{sheet_edition}
use Rattle.paper_print.specs.ClashProgram.{printed_of}
use Rattle.print_lines.specs.Lines.{longest_first_line, put_lines, put_where_room}
use Rattle.print_clash.specs.ClashPrinted.{lined}
use Rattle.print_clash.proofs.Making.{no_room, with_room}
use Rattle.print_clash.proofs.ClashLines.{printed_lines}
use Rattle.print_clash.proofs.lines.Goals as goal

pub returns-then-not-has_room : goal.returns-then-not-has_room
unfolding lined
returns-then-not-has_room c =
    let args = c.args in
    let o = outcome args.sheet.now args.work.now args.answer.now in
    no_room longest_first_line (printed_of (sheet_edition args.sheet.now) o) o args.work.now args.answer.now args.out.now
    (sym c.has_room.ensures ∙ c.if-not-has_room.true)

pub returns : goal.returns
unfolding lined put_lines
returns c =
    let args = c.args in
    let o = outcome args.sheet.now args.work.now args.answer.now in
    let e = sheet_edition args.sheet.now in
    let whole = c.clash.ensures.whole in
    let answer' = c.clash.new.answer in
    with_room longest_first_line (printed_of e o) o args.work.now args.answer.now args.out.now
    (sym c.has_room.ensures ∙ c.if-not-has_room.false)
    c.clash.auto.answer
    (ap (λ (x : Outcome). x.answer) whole)
    (ap (λ (x : Outcome). x.work) whole)
    (c.put_lines.ensures
    ∙ ap (λ (l : List ℕ). put_where_room longest_first_line l answer' args.out.now)
    (printed_lines (paper_edition c.edition-edition.result) e c.clash.result c.edition-edition.ensures whole c.from-told.ensures))
