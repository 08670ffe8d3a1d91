-- `edition` meets its contract, by the sheet's first bytes.
use mathlib.Core.Path.{sym, ◌∙◌}
use Rattle.print_signs.proofs.EditionByBytes.{edition_by_bytes}
use Rattle.print_signs.proofs.edition.Goals as goal

pub returns-then-starts_with : goal.returns-then-starts_with
returns-then-starts_with c = rw (sym c.starts_with.ensures.value ∙ c.if-starts_with.true) at (edition_by_bytes c.args.sheet.now)

pub returns-else-starts_with : goal.returns-else-starts_with
returns-else-starts_with c = rw (sym c.starts_with.ensures.value ∙ c.if-starts_with.false) at (edition_by_bytes c.args.sheet.now)
