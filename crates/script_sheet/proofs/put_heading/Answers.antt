-- `put_heading` meets its contract: its lines are put one behind the other.
use Rattle.base_put.proofs.Counting.{counted_then}
use Rattle.script_sheet.proofs.put_heading.Goals as goal

pub returns : goal.returns
returns c =
    counted_then (counted_then c.put_all-first.ensures c.put_all-second.ensures) c.put_all.ensures
