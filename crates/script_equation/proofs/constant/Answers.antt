-- `constant` meets its contract.
use Rattle.base_put.proofs.Counting.{counted_then}
use Rattle.script_equation.proofs.constant.Goals as goal

pub returns : goal.returns
returns c =
    counted_then c.put-begun.ensures (rw c.digit.ensures at c.put.ensures)
