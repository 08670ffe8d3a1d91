-- `escaped` meets its contract: its parts are put one behind the other.
use Rattle.paper_script.specs.Script.{escaped}
use Rattle.base_put.proofs.Counting.{counted_then}
use Rattle.script_characters.proofs.escaped.Goals as goal

pub returns : goal.returns
unfolding escaped
returns c =
    counted_then (counted_then c.put_all-begun.ensures c.hexadecimal-behind.ensures) c.put.ensures
