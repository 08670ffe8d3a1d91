-- `follow_rows` meets its contract: behind the own fields' rows stand those that were stored before (`laid_rows`).
use mathlib.Core.Path.{◌∙◌}
use borrow.Author.Rules.{rules}
use Rattle.search_tables.specs.Tables.{follow_of}
use Rattle.plain_rows.specs.Fronts.{no_tables, one_place}
use Rattle.plain_rows.proofs.Rows.{laid_rows}
use Rattle.plain_rows.proofs.follow_rows.Goals as goal

pub returns : goal.returns
unfolding one_place no_tables
returns c =
    c.lay.ensures follow_of (λ t x h. search rules)
    ∙ laid_rows follow_of c.args.own c.args.hidden
