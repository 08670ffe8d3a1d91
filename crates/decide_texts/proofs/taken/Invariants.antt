-- `taken` meets its contract. The loop's invariant: the places that take a character below c are gathered.
use mathlib.Core.Path.{◌≡◌}
use Rattle.decide_texts.specs.TextsCoded.{taken_by}
use Rattle.decide_texts.proofs.taken.Given as goal

abbrev pub invariant-loop-its : goal.invariant-loop-its
invariant-loop-its l = l.r ≡ taken_by l.its-index l.taking
