-- `leading_to` meets its contract. The loop's invariant: the places below i that lead to the set are gathered.
use mathlib.Core.Path.{◌≡◌}
use Rattle.decide_texts.proofs.TextTurns.{leading_below}
use Rattle.decide_texts.proofs.leading_to.Given as goal

abbrev pub invariant-loop-i : goal.invariant-loop-i
invariant-loop-i l = l.r ≡ leading_below l.follow l.set l.i
