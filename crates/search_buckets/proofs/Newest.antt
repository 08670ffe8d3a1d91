-- Laws of the newest of the numbers below n that pass a test: it is at most n, it passes, those from it on don't, there is none where none
-- passes, and it depends on the test below n alone. Follows from the definition by induction on n.
use Prim.Native.Nat.{ℕ, zero, suc, ◌≤◌, ◌<◌}
use native.Mathlib.Omega.{arith}
use mathlib.Core.Path.{◌≡◌, refl}
use mathlib.Core.Bool.{Bool, true, false}
use lib.Dec.{ltb}
use Rattle.paper.proofs.base.Tests.{by_bool, ltb_true, ltb_false}
use Rattle.search_buckets.specs.Buckets.{newest}

module _ (p : ℕ → Bool) where
  pub newest_le : (n : ℕ) → newest p n ≤ n
  newest_le zero = omega arith
  newest_le (suc n) = by_bool (p n) (λ t. rw t (omega arith)) (λ t. rw t (omega (arith, newest_le n)))

  pub newest_passes : (n i : ℕ) → newest p n ≡ suc i → p i ≡ true
  newest_passes zero i e = absurd (omega arith)
  newest_passes (suc n) i e =
      by_bool (p n)
      (λ t.
      let f : suc n ≡ suc i = rw t at e in
      let g : n ≡ i = omega arith in
      rw (← g) t)
      (λ t. newest_passes n i (rw t at e))

  pub newest_none : (n j : ℕ) → newest p n ≤ j → j < n → p j ≡ false
  newest_none zero j h k = absurd (omega arith)
  newest_none (suc n) j h k =
      by_bool (p n)
      (λ t.
      let f : suc n ≤ j = rw t at h in
      absurd (omega arith))
      (λ t.
      by_bool (ltb j n) (λ b. newest_none n j (rw t at h) (ltb_true j n b))
      (λ b.
      let g : n ≡ j = omega (arith, ltb_false j n b) in
      rw (← g) t))

  pub newest_zero : (n : ℕ) → ((j : ℕ) → j < n → p j ≡ false) → newest p n ≡ 0
  newest_zero zero h = refl
  newest_zero (suc n) h = rw (h n (omega arith)) (newest_zero n (λ j k. h j (omega arith)))

pub newest_same : (p q : ℕ → Bool) (n : ℕ) → ((j : ℕ) → j < n → p j ≡ q j) → newest p n ≡ newest q n
newest_same p q zero h = refl
newest_same p q (suc n) h = rw (h n (omega arith), newest_same p q n (λ j k. h j (omega arith)))
