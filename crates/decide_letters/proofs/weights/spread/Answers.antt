-- `spread` meets its contract, by what its parts promise.
use Prim.Native.Nat.{ℕ, ◌-◌}
use mathlib.Core.Path.{refl, ap₂, ◌∙◌}
use Rattle.decide_letters.proofs.Packing.{same_packed}
use Rattle.decide_letters.proofs.weights.spread.Goals as goal

pub returns : goal.returns
returns c =
    let high = c.one_if-high.ensures.1 in
    let low = c.one_if-low.ensures.1 in
    c.packed.ensures ∙ same_packed low (c.surplus.ensures ∙ ap₂ (λ (x y : ℕ). x - y) high low) refl high
