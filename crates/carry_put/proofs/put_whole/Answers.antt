-- `put_whole` meets its contract: its parts are put one behind the other.
use Rattle.base_put.proofs.Counting.{counted_then}
use Rattle.carry_put.proofs.put_whole.Goals as goal

pub returns : goal.returns
returns c =
    counted_then c.put_front-behind.ensures c.put_from.ensures
