-- `many` meets its contract, by what its parts promise.
use Prim.Native.Nat.{ℕ}
use mathlib.Core.Path.{refl, ap₂, ◌∙◌}
use mathlib.Core.Bool.{Bool, not, ◌||◌}
use lib.Dec.{eqb}
use Rattle.paper_decide.specs.Letters.{divisor}
use Rattle.decide_letters.proofs.Packing.{same_packed}
use Rattle.decide_letters.proofs.weights.many.Goals as goal

pub returns : goal.returns
returns c =
    c.packed.ensures
    ∙ same_packed refl (c.divisor-steps.ensures ∙ ap₂ divisor c.least.ensures.0 c.step.ensures.0)
    (ap₂ (λ (x : Bool) (m : ℕ). x || not (eqb m 0)) c.endless.ensures c.most.ensures.0) refl
