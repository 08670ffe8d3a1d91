-- `sheet` meets its contract, by what reading the sheet tells and by what is written anew (`CarryAnswered`).
use mathlib.Core.Path.{◌≡◌}
use borrow.Author.Rules.{rules}
use Rattle.carry_open.proofs.CarryAnswered.{edition_read, sheet_carried}
use Rattle.carry_open.proofs.sheet.Goals as goal

pub returns : goal.returns
returns c =
    let d : c.map_or-edition.result ≡ edition_read c.read-read.result = search rules in
    let h = sheet_carried _ _ _ c.read-read.ensures _ d _ c.sheet.ensures in
    record { whole = h.0; promised = h.1 }
