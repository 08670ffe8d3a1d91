-- `digits` meets its contract. Follows from the laws of `digits` and of bytes put one behind the other.
use native.Mathlib.Omega.{arith}
use mathlib.Core.Path.{ap}
use lib.ListN.{length}
use Rattle.print_lines.specs.Writing.{in_digits}
use Rattle.print_lines.proofs.Decimal.{one_digit, more_digits, one_more_digit}
use Rattle.print_lines.proofs.Putting.{puts_none, puts_then}
use Rattle.print_lines.proofs.+digits.Goals as goal

pub returns-then-most-eq0 : goal.returns-then-most-eq0
unfolding in_digits
returns-then-most-eq0 t c = rw c.if-most-eq0.true puts_none

pub put-requires : goal.put-requires
put-requires t c =
    omega (arith, c.requires, ap length (one_digit c.args.most c.args.n c.if-most-eq0.false c.if-n-lt10.true))

pub returns-then-n-lt10 : goal.returns-then-n-lt10
returns-then-n-lt10 t c =
    rw (one_digit c.args.most c.args.n c.if-most-eq0.false c.if-n-lt10.true, ← c.digit.ensures)
    c.put.ensures

pub digits-end-requires : goal.digits-end-requires
digits-end-requires t c =
    let more = one_more_digit c.args.most c.args.n c.if-most-eq0.false c.if-n-lt10.false in
    (omega (arith, c.decreases), omega (arith, c.requires))

pub put-requires-2 : goal.put-requires-2
put-requires-2 t c =
    let more = one_more_digit c.args.most c.args.n c.if-most-eq0.false c.if-n-lt10.false in
    omega (arith, c.requires, c.digits-end.ensures.behind, c.digits-end.auto.out)

pub returns : goal.returns
returns t c =
    rw (more_digits c.args.most c.args.n c.if-most-eq0.false c.if-n-lt10.false, ← c.digit-2.ensures)
    (puts_then c.digits-end.ensures c.put-2.ensures)
