-- `read` meets its contract. The loop's invariant: the records are read up to the offset. The measure is what is left.
-- Assumes nothing.
use mathlib.Core.Path.{sym, ◌∙◌}
use Rattle.paper.specs.Sheet.{PA}
use Rattle.read_fields.proofs.Reached.{reached_start, reached_fault, reached_open, reached_next, reached_end, reached_tables, mark_left}
use Rattle.read_fields.proofs.read.Goals as goal

pub loop-edition-init : goal.loop-edition-init
loop-edition-init c = reached_start _ _ _ _ c.open_tables-open.ensures _ c.no_bodies-bodies.ensures

pub pattern-requires : goal.pattern-requires
pattern-requires c = mark_left PA _ _ (sym c.next_is_pattern.ensures ∙ c.loop-edition-test.true)

pub returns-in-Err-clause-said : goal.returns-in-Err-clause-said
returns-in-Err-clause-said c =
    reached_fault c.loop-edition.invariant c.in-Err.refusal (sym c.next_is_pattern.ensures ∙ c.loop-edition-test.true) c.in-Err.ensures

pub returns-in-Err-clause-tables : goal.returns-in-Err-clause-tables
returns-in-Err-clause-tables c =
    reached_open c.loop-edition.invariant c.in-Err.refusal (sym c.next_is_pattern.ensures ∙ c.loop-edition-test.true) c.in-Err.ensures
    c.open_tables-open.result c.open_tables-open.ensures

pub loop-edition-preserved : goal.loop-edition-preserved
loop-edition-preserved c =
    reached_next c.loop-edition.invariant c.in-Ok.r (sym c.next_is_pattern.ensures ∙ c.loop-edition-test.true) c.in-Ok.ensures

pub returns-clause-said : goal.returns-clause-said
returns-clause-said c = reached_end c.loop-edition.invariant (sym c.next_is_pattern.ensures ∙ c.loop-edition-test.false)

pub returns-clause-tables : goal.returns-clause-tables
returns-clause-tables c = reached_tables c.loop-edition.invariant (sym c.next_is_pattern.ensures ∙ c.loop-edition-test.false)
