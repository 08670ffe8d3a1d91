-- `choose_within` meets its contract. The loop's invariant: so far the places below `p` are walked.
use mathlib.Core.Path.{◌≡◌}
use Rattle.decide_alike.specs.AlikeCoded.{stepped, chosen_at}
use Rattle.decide_alike.proofs.Choices.choose_within.Given as goal

abbrev pub invariant-loop-p : goal.invariant-loop-p
invariant-loop-p l = l.chosen ≡ stepped (chosen_at l.self.many l.self.free l.self.least l.row) l.p l.initial.chosen
