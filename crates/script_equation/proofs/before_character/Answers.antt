-- `before_character` meets its contract, by its test.
use Rattle.script_equation.proofs.before_character.Goals as goal

pub returns : goal.returns
returns c =
    rw c.if-literal.false c.put_all.ensures
