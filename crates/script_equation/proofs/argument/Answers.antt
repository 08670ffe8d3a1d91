-- `argument` meets its contract, by its test.
use Rattle.paper.proofs.base.Tests.{lt_ltb, le_ltb}
use Rattle.base_codes.specs.Inner.{field_code}
use Rattle.base_put.proofs.Counting.{counted_then}
use Rattle.script_equation.specs.Arguments.{argument}
use Rattle.script_equation.proofs.argument.Goals as goal

pub returns-then-token-lt-FIELD_CODE : goal.returns-then-token-lt-FIELD_CODE
unfolding argument
returns-then-token-lt-FIELD_CODE c =
    rw (lt_ltb c.args.token field_code c.if-token-lt-FIELD_CODE.true) (counted_then c.before_character-begun.ensures c.character.ensures)

pub returns : goal.returns
unfolding argument
returns c =
    rw (le_ltb c.args.token field_code c.if-token-lt-FIELD_CODE.false)
    (counted_then c.before_field-begun.ensures (rw c.digit.ensures at c.put.ensures))
