-- `number_and` meets its contract: the digits, and the sign behind them. Follows from `puts_then`.
use native.Mathlib.Omega.{arith}
use Rattle.print_lines.proofs.Putting.{puts_then}
use Rattle.print_lines.proofs.number_and.Goals as goal

pub digits-end-requires : goal.digits-end-requires
digits-end-requires c = omega (arith, c.requires)

pub put-requires : goal.put-requires
put-requires c =
    omega (arith, c.requires, c.digits-end.ensures.behind, c.digits-end.auto.out)

pub returns : goal.returns
returns c = puts_then c.digits-end.ensures c.put.ensures
