-- `is_plain` meets its contract, by its tests.
use Rattle.paper.proofs.base.Tests.{le_leb, lt_leb}
use Rattle.script_characters.proofs.is_plain.Goals as goal

pub returns-then-c-lt32 : goal.returns-then-c-lt32
returns-then-c-lt32 c = rw (lt_leb 32 c.args.c c.if-c-lt32.true)

pub returns-then-c-gt126 : goal.returns-then-c-gt126
returns-then-c-gt126 c =
    let b = c.args.c in
    rw (le_leb 32 b c.if-c-lt32.false, lt_leb b 126 c.if-c-gt126.true)

pub returns : goal.returns
returns c =
    let b = c.args.c in
    rw (le_leb 32 b c.if-c-lt32.false, le_leb b 126 c.if-c-gt126.false)
