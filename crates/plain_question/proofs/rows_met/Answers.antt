-- `rows_met` meets its contract: the rows are laid behind one another (`laid_rows`), then by what `ends_met` says.
use mathlib.Core.Path.{◌∙◌}
use borrow.Author.Rules.{rules}
use Rattle.plain_rows.specs.Fronts.{no_tables, one_place}
use Rattle.search_tables.specs.Tables.{taking_of}
use Rattle.plain_rows.proofs.Rows.{laid_rows}
use Rattle.plain_question.proofs.ByRows.{said_rows}
use Rattle.plain_question.proofs.rows_met.Goals as goal

pub returns : goal.returns
unfolding one_place no_tables
returns c =
    let a = c.args in
    said_rows a.characters a.follow.now _ _ a.last.now a.left a.right _
    (c.lay.ensures taking_of (λ t x h. search rules) ∙ laid_rows taking_of a.own a.hidden)
    c.ends_met.ensures
