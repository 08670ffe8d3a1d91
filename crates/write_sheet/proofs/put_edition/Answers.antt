-- `put_edition` meets its contract: nothing for the first edition, `ED` and 2 for the second.
use Rattle.base_put.proofs.Counting.{counted_none}
use Rattle.write_sheet.proofs.put_edition.Goals as goal

pub returns-in-First : goal.returns-in-First
returns-in-First c = rw c.in-First.is counted_none

pub returns-in-Second : goal.returns-in-Second
returns-in-Second c =
    rw c.in-Second.is c.put_all.ensures
