-- `field_times` meets its contract. The loop's invariant: the fields of the tokens before this one are counted (`Timing`).
use Rattle.decide_letters.proofs.InSides.{Timing}
use Rattle.decide_letters.proofs.sides.field_times.Given as goal

abbrev pub invariant-loop-b : goal.invariant-loop-b
invariant-loop-b l = Timing l.b-items l.times l.b-index
