-- `behind` meets its contract, by what its parts promise.
use Prim.Native.Nat.{ℕ, ◌+◌}
use mathlib.Core.Path.{ap₂, ◌∙◌}
use mathlib.Core.Bool.{Bool, ◌||◌}
use Rattle.paper_decide.specs.Letters.{divisor}
use Rattle.decide_letters.proofs.Packing.{same_packed}
use Rattle.decide_letters.proofs.weights.behind.Goals as goal

pub returns : goal.returns
returns c =
    c.packed.ensures
    ∙ same_packed
    (ap₂ (λ (x y : ℕ). x + y) c.least.ensures.0 c.least-2.ensures.0)
    (c.divisor-steps.ensures ∙ ap₂ divisor c.step.ensures.0 c.step-2.ensures.0)
    (ap₂ (λ (x y : Bool). x || y) c.endless.ensures c.endless-2.ensures)
    (ap₂ (λ (x y : ℕ). x + y) c.most.ensures.0 c.most-2.ensures.0)
