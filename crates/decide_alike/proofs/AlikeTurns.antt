-- One step more of those that are made one after the other. Follows from the definition.
use Prim.Native.Nat.{ℕ, ◌+◌}
use native.Mathlib.Numerals.{add-one}
use mathlib.Core.Path.{◌≡◌, refl}
use Rattle.decide_alike.specs.AlikeCoded.{stepped}

module _ {A : Type 0} (step : ℕ → A → A) (x : A) where
  pub no_step : stepped step 0 x ≡ x
  unfolding stepped
  no_step = refl

  pub step_more : (n : ℕ) → stepped step (n + 1) x ≡ step n (stepped step n x)
  unfolding stepped
  step_more n = rw (add-one n)
