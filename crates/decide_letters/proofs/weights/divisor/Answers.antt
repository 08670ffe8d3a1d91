-- `divisor` meets its contract. The loop's invariant: x and y still give the divisor (`Turning`). What is left, y, falls.
use native.Mathlib.Nat.{mod-lt}
use native.Mathlib.Omega.{arith}
use Rattle.decide_letters.proofs.Divisors.{turning_first, turning_on, turning_done}
use Rattle.decide_letters.proofs.weights.divisor.Goals as goal

pub loop-y-init : goal.loop-y-init
loop-y-init c = turning_first c.args.a c.args.b

pub nonzero_rem-rest : goal.nonzero_rem-rest
nonzero_rem-rest c = omega (arith, c.loop-y-test.true)

pub loop-y-smaller : goal.loop-y-smaller
loop-y-smaller c = let l = c.loop-y in mod-lt l.x {m = l.y} (omega (arith, c.loop-y-test.true))

pub loop-y-preserved : goal.loop-y-preserved
loop-y-preserved c =
    let l = c.loop-y in
    let a = c.args in
    turning_on a.a a.b l.x l.y l.invariant c.loop-y-test.true

pub returns : goal.returns
returns c =
    let l = c.loop-y in
    let a = c.args in
    turning_done a.a a.b l.x l.y l.invariant c.loop-y-test.false
