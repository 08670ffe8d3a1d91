-- `divisor` meets its contract. The loop's invariant: x and y still give the divisor (`Turning`). What is left, y, falls.
use Rattle.decide_letters.proofs.Divisors.{Turning}
use Rattle.decide_letters.proofs.weights.divisor.Given as goal

abbrev pub invariant-loop-y : goal.invariant-loop-y
invariant-loop-y l = Turning l.a l.b l.x l.y

abbrev pub decreases-loop-y : goal.decreases-loop-y
decreases-loop-y l = l.y
