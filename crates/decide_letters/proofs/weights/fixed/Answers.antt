-- `fixed` meets its contract, by what its parts promise.
use mathlib.Core.Path.{refl, ◌∙◌}
use Rattle.decide_letters.proofs.Packing.{same_packed}
use Rattle.decide_letters.proofs.weights.fixed.Goals as goal

pub returns : goal.returns
returns c = let w = c.one_if-weight.ensures.1 in c.packed.ensures ∙ same_packed w refl refl w
