-- What is left behind a step, test by test, as the code goes.
-- Follows from the definition.
use Prim.Native.Nat.{ℕ, ◌≤◌, ◌<◌}
use mathlib.Core.Path.{◌≡◌, ap, ◌∙◌}
use mathlib.Core.List.{List}
use Rattle.paper.specs.Numbers.{most_characters}
use Rattle.paper.proofs.base.Tests.{lt_ltb, le_ltb, eq_eqb, neq_eqb}
use Rattle.base_codes.specs.Inner.{front}
use Rattle.base_codes.specs.Coded.{Coded}
use Rattle.way_step.specs.NextCoded.{less_one, left_behind}

module _ (left : List ℕ) (s : Coded) (step : ℕ) where
  pub behind_none : most_characters ≤ step → left ≡ left_behind left s step
  unfolding left_behind
  behind_none h = rw (le_ltb step most_characters h)

  module _ (l r : ℕ) (h : step < most_characters) (fl : front s.left ≡ l) (fr : front s.right ≡ r) where
    pub behind_same : {after : List ℕ} → r ≡ l → after ≡ less_one left l → after ≡ left_behind left s step
    unfolding left_behind
    behind_same e a = rw (lt_ltb step most_characters h, fl, fr, eq_eqb r l e) a

    pub behind_both : (r ≡ l → ⊥) → (less : List ℕ) {after : List ℕ} → less ≡ less_one left l → after ≡ less_one less r → after ≡ left_behind left s step
    unfolding left_behind
    behind_both n less a b = rw (lt_ltb step most_characters h, fl, fr, neq_eqb r l n) (b ∙ ap (λ (k : List ℕ). less_one k r) a)
