-- `hexadecimal` meets its contract, by its test: one digit, or two.
use Rattle.paper.proofs.base.Tests.{lt_ltb, le_ltb}
use Rattle.base_put.proofs.Counting.{counted_then}
use Rattle.script_characters.proofs.hexadecimal.Goals as goal

pub returns-then-c-lt16 : goal.returns-then-c-lt16
returns-then-c-lt16 c =
    rw (lt_ltb c.args.c 16 c.if-c-lt16.true) (rw c.hexadecimal_digit.ensures at c.put.ensures)

pub returns : goal.returns
returns c =
    rw (le_ltb c.args.c 16 c.if-c-lt16.false)
    (counted_then (rw c.hexadecimal_digit-2.ensures at c.put-behind.ensures) (rw c.hexadecimal_digit-3.ensures at c.put-2.ensures))
