-- `digit_and` meets its contract.
use Rattle.base_put.proofs.Counting.{counted_then}
use Rattle.script_sheet.proofs.memberships.digit_and.Goals as goal

pub returns : goal.returns
returns c =
    counted_then c.put-behind.ensures c.put_all.ensures
