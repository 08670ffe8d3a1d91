-- `lines` meets its contract: without room nothing is changed, with room the sheet is decided. Follows from `no_room`, `with_room` and
-- `printed_lines`.
use Prim.Native.Nat.{ℕ}
use mathlib.Core.Path.{sym, ap, ◌∙◌}
use mathlib.Core.List.{List}
use Rattle.paper_decide.specs.Deciding.{Decision, decision}
use Rattle.base_editions.specs.Editions.{paper_edition}
use Rattle.paper_print.specs.TextLines.{sheet_edition}
use Rattle.paper_print.specs.DecideProgram.{printed_decision}
use Rattle.print_lines.specs.Lines.{longest_decided_line, put_decided, put_where_room}
use Rattle.print_clash.proofs.Making.{no_room, with_room}
use Rattle.print_decide.specs.DecisionPrinted.{lined_decided}
use Rattle.print_decide.proofs.DecisionLines.{printed_lines}
use Rattle.print_decide.proofs.lines.Goals as goal

pub returns-then-not-has_decided_room : goal.returns-then-not-has_decided_room
unfolding lined_decided
returns-then-not-has_decided_room c =
    let args = c.args in
    let d = decision args.sheet.now args.work.now args.answer.now in
    no_room longest_decided_line (printed_decision (sheet_edition args.sheet.now) d) d.outcome args.work.now args.answer.now args.out.now
    (sym c.has_decided_room.ensures ∙ c.if-not-has_decided_room.true)

pub returns : goal.returns
unfolding lined_decided put_decided
returns c =
    let args = c.args in
    let d = decision args.sheet.now args.work.now args.answer.now in
    let e = sheet_edition args.sheet.now in
    let whole = c.decide-made.ensures.whole in
    let answer' = c.decide-made.new.answer in
    with_room longest_decided_line (printed_decision e d) d.outcome args.work.now args.answer.now args.out.now
    (sym c.has_decided_room.ensures ∙ c.if-not-has_decided_room.false)
    c.decide-made.auto.answer
    (ap (λ (x : Decision). x.outcome.answer) whole)
    (ap (λ (x : Decision). x.outcome.work) whole)
    (c.put_decided.ensures
    ∙ ap (λ (l : List ℕ). put_where_room longest_decided_line l answer' args.out.now)
    (printed_lines (paper_edition c.edition-edition.result) e c.decide-made.result c.edition-edition.ensures whole c.from-told.ensures))
