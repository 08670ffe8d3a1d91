-- `hexadecimal_digit` meets its contract, by its test.
use Rattle.paper.proofs.base.Tests.{lt_ltb, le_ltb}
use Rattle.script_characters.proofs.hexadecimal_digit.Goals as goal

pub returns-then-d-lt10 : goal.returns-then-d-lt10
returns-then-d-lt10 c = rw (lt_ltb c.args.d 10 c.if-d-lt10.true)

pub returns-else-d-lt10 : goal.returns-else-d-lt10
returns-else-d-lt10 c = rw (le_ltb c.args.d 10 c.if-d-lt10.false)
