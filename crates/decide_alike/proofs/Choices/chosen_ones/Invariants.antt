-- `chosen_ones` meets its contract. The loop's invariant: so far the fields below `f` are walked.
use mathlib.Core.Path.{◌≡◌}
use mathlib.Core.Bool.{false}
use lib.ListN.{replicate}
use Rattle.paper.specs.Numbers.{most_characters}
use Rattle.decide_alike.specs.AlikeCoded.{stepped, chosen_of}
use Rattle.decide_alike.proofs.Choices.chosen_ones.Given as goal

abbrev pub invariant-loop-f : goal.invariant-loop-f
invariant-loop-f l = l.chosen ≡ stepped (chosen_of l.self.many l.self.free l.self.least l.standing l.taking) l.f (replicate most_characters false)
