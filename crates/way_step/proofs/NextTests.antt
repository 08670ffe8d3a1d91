-- The step that the texts want, test by test, as the code goes.
-- Follows from the definition.
use Prim.Native.Nat.{ℕ}
use mathlib.Core.Path.{◌≡◌, ap₂, ◌∙◌}
use mathlib.Core.Bool.{true, false}
use mathlib.Core.List.{List}
use Rattle.base_codes.specs.Inner.{left_struck, right_struck, front}
use Rattle.base_codes.specs.Coded.{Coded}
use Rattle.way_step.specs.NextCoded.{used_coded, character_coded, put_code, next_code}

module _ (x : ℕ) (bytes ends left : List ℕ) (n : ℕ) (s : Coded) (l : ℕ) (fl : front s.left ≡ l) where
  pub next_left : used_coded left l ≡ true → left_struck ≡ next_code x bytes ends left n s
  unfolding next_code
  next_left e = rw (fl, e)

  module _ (u : used_coded left l ≡ false) (r : ℕ) (fr : front s.right ≡ r) where
    pub next_right : used_coded left r ≡ true → right_struck ≡ next_code x bytes ends left n s
    unfolding next_code
    next_right e = rw (fl, u, fr, e)

    pub next_put : used_coded left r ≡ false → (c d : ℕ) {k : ℕ} → c ≡ character_coded x bytes ends left l → d ≡ character_coded x bytes ends left r
        → k ≡ put_code n c d → k ≡ next_code x bytes ends left n s
    unfolding next_code
    next_put e c d p q h = rw (fl, u, fr, e) (h ∙ ap₂ (put_code n) p q)
