-- `equation` meets its contract: its parts are put one behind the other.
use Rattle.base_put.proofs.Counting.{counted_then}
use Rattle.script_equation.specs.Arguments.{equation_spelt}
use Rattle.script_equation.proofs.equation.Goals as goal

pub returns : goal.returns
unfolding equation_spelt
returns c =
    counted_then
    (counted_then (counted_then c.put_all-begun.ensures c.side_term-behind_left.ensures) (counted_then c.put-gap.ensures c.side_term-behind_right.ensures))
    c.put_all.ensures
