-- `one_character` meets its contract: its parts are put one behind the other.
use Rattle.paper_script.specs.Script.{one_character}
use Rattle.base_put.proofs.Counting.{counted_then}
use Rattle.script_terms.proofs.one_character.Goals as goal

pub returns : goal.returns
unfolding one_character
returns c =
    counted_then (counted_then c.put_all-open.ensures c.character-behind.ensures) c.put_all.ensures
