-- `put_field` meets its contract, by its test.
use mathlib.Core.List.{append-nil}
use Rattle.paper.specs.Question.{held_by, hidden}
use Rattle.paper.proofs.base.Tests.{eq_eqb, neq_eqb}
use Rattle.paper_script.specs.Script.{field_lines}
use Rattle.base_editions.specs.Editions.{paper_edition}
use Rattle.base_put.proofs.Counting.{counted_none}
use Rattle.script_sheet.proofs.put_field.Goals as goal

pub returns-then-count-eq0 : goal.returns-then-count-eq0
returns-then-count-eq0 c = λ q e b. rw (eq_eqb c.args.count 0 c.if-count-eq0.true) counted_none

pub returns : goal.returns
returns c = λ q e b.
    let lines = field_lines (paper_edition c.args.edition) c.args.f (held_by (hidden q) c.args.f) in
    rw (neq_eqb c.args.count 0 c.if-count-eq0.false, append-nil lines) (c.field_lines.ensures q e b)
