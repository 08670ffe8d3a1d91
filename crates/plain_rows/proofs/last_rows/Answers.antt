-- `last_rows` meets its contract: behind the own fields' rows stand those that were stored before (`laid_rows`).
use mathlib.Core.Path.{◌∙◌}
use borrow.Author.Rules.{rules}
use Rattle.search_tables.specs.Tables.{last_of}
use Rattle.plain_rows.specs.Fronts.{no_tables, one_place}
use Rattle.plain_rows.proofs.Rows.{laid_rows}
use Rattle.plain_rows.proofs.last_rows.Goals as goal

pub returns : goal.returns
unfolding one_place no_tables
returns c =
    c.lay.ensures last_of (λ t x h. search rules)
    ∙ laid_rows last_of c.args.own c.args.hidden
