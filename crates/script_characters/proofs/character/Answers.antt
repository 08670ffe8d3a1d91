-- `character` meets its contract, by the edition.
use Rattle.paper_script.specs.Script.{character}
use Rattle.script_characters.proofs.character.Goals as goal

pub returns-in-First : goal.returns-in-First
unfolding character
returns-in-First c =
    rw c.in-First.is (rw c.sign.ensures at c.put.ensures)

pub returns-in-Second : goal.returns-in-Second
returns-in-Second c =
    rw c.in-Second.is c.in_ascii.ensures
