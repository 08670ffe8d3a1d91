-- `either` meets its contract, by what its parts promise.
use Prim.Native.Nat.{ℕ}
use mathlib.Core.Path.{ap₂, ◌∙◌}
use mathlib.Core.Bool.{Bool, cond, ◌||◌}
use lib.Dec.{ltb}
use Rattle.paper_decide.specs.Letters.{divisor, between}
use Rattle.decide_letters.proofs.Packing.{same_packed}
use Rattle.decide_letters.proofs.weights.either.Goals as goal

pub returns : goal.returns
returns c =
    let a = c.least-low.ensures.0 in
    let b = c.least-other.ensures.0 in
    c.packed.ensures
    ∙ same_packed
    (c.lesser.ensures ∙ ap₂ (λ (x y : ℕ). cond (ltb y x) y x) a b)
    (c.divisor-steps.ensures ∙ ap₂ divisor (c.divisor.ensures ∙ ap₂ divisor c.step.ensures.0 c.step-2.ensures.0) (c.between.ensures ∙ ap₂ between a b))
    (ap₂ (λ (x y : Bool). x || y) c.endless.ensures c.endless-2.ensures)
    (c.greater.ensures ∙ ap₂ (λ (x y : ℕ). cond (ltb x y) y x) c.most.ensures.0 c.most-2.ensures.0)
