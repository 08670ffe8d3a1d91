-- `write` meets its contract: it is the edition 0.
use Rattle.write_sheet.proofs.write.Goals as goal

pub returns : goal.returns
returns c = c.write_edition.ensures
