-- `choice` meets its contract: its parts are put one behind the other.
use Rattle.base_put.proofs.Counting.{counted_then}
use Rattle.script_terms.proofs.choice.Goals as goal

pub returns : goal.returns
returns c =
    counted_then (counted_then c.put_all-open.ensures c.characters-end.ensures) c.put.ensures
