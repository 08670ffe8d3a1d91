-- `any_spaces` meets its contract, by the edition.
use mathlib.Core.Path.{sym, ap}
use Rattle.base_editions.specs.Editions.{paper_edition}
use Rattle.base_editions.specs.declared.Edition.{Edition}
use Rattle.script_sheet.specs.WrittenOut.{spaces_bytes}
use Rattle.script_sheet.proofs.memberships.any_spaces.Goals as goal

pub returns-in-First : goal.returns-in-First
returns-in-First c = ap (λ (e : Edition). spaces_bytes (paper_edition e)) (sym c.in-First.is)

pub returns-in-Second : goal.returns-in-Second
returns-in-Second c = ap (λ (e : Edition). spaces_bytes (paper_edition e)) (sym c.in-Second.is)
