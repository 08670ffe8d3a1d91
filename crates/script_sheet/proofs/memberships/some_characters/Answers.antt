-- `some_characters` meets its contract, by the edition.
use mathlib.Core.Path.{sym, ap}
use Rattle.base_editions.specs.Editions.{paper_edition}
use Rattle.base_editions.specs.declared.Edition.{Edition}
use Rattle.script_sheet.specs.WrittenOut.{some_bytes}
use Rattle.script_sheet.proofs.memberships.some_characters.Goals as goal

pub returns-in-First : goal.returns-in-First
returns-in-First c = ap (λ (e : Edition). some_bytes (paper_edition e)) (sym c.in-First.is)

pub returns-in-Second : goal.returns-in-Second
returns-in-Second c = ap (λ (e : Edition). some_bytes (paper_edition e)) (sym c.in-Second.is)
