-- `next_character` meets its contract: a space, and the character.
use Rattle.base_put.proofs.Counting.{counted_then}
use Rattle.script_terms.proofs.next_character.Goals as goal

pub returns : goal.returns
returns c =
    counted_then c.put-space.ensures c.one_character.ensures
