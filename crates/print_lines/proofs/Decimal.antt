-- Laws of numbers in decimal: the last digit, what stands before it, and how many digits there are. Follows from the definition of `digits`.
use Prim.Native.Nat.{ℕ, zero, suc, ◌+◌, ◌-◌, ◌/◌, ◌%◌, ◌^◌, ◌≤◌, ◌<◌}
use native.Mathlib.Nat.{pow-suc}
use native.Mathlib.Numerals.{sub-one}
use native.Mathlib.Omega.{arith}
use mathlib.Core.Path.{◌≡◌, refl}
use mathlib.Core.Bool.{true, false}
use mathlib.Core.List.{[], ◌∷◌, ◌++◌}
use lib.Dec.{ltb}
use lib.ListN.{length, length-append}
use borrow.Author.Tests.{lt-ltb, le-ltb}
use Rattle.paper.specs.Printed.{digits}
use Rattle.paper.proofs.base.Tests.{by_bool}
use Rattle.print_lines.specs.Writing.{in_digits, in_decimal}

-- a number of one digit
pub one_digit : (k n : ℕ) → (k ≡ 0 → ⊥) → n < 10 → in_digits k n ≡ (48 + n % 10) ∷ []
unfolding in_digits
one_digit zero n some h = absurd (some refl)
one_digit (suc k) n some h = rw (lt-ltb n 10 h)

-- a number of several
pub more_digits : (k n : ℕ) → (k ≡ 0 → ⊥) → 10 ≤ n → in_digits k n ≡ in_digits (k - 1) (n / 10) ++ ((48 + n % 10) ∷ [])
unfolding in_digits
more_digits zero n some h = absurd (some refl)
more_digits (suc k) n some h = rw (le-ltb n 10 h, sub-one)

pub one_more_digit : (k n : ℕ) → (k ≡ 0 → ⊥) → 10 ≤ n → length (in_digits k n) ≡ length (in_digits (k - 1) (n / 10)) + 1
one_more_digit k n some h = rw (more_digits k n some h, length-append)

digits_at_most : (k n : ℕ) → length (digits k n) ≤ k
digits_at_most zero n = omega arith
digits_at_most (suc k) n =
    by_bool (ltb n 10) (λ (h : ltb n 10 ≡ true). rw h (omega arith))
    (λ (h : ltb n 10 ≡ false). rw (h, length-append) (omega (arith, digits_at_most k (n / 10))))

digits_below : (j k n : ℕ) → n < 10 ^ suc j → length (digits k n) ≤ suc j
digits_below j zero n h = omega arith
digits_below zero (suc k) n h = rw (lt-ltb n 10 h) (omega arith)
digits_below (suc j) (suc k) n h =
    by_bool (ltb n 10) (λ (t : ltb n 10 ≡ true). rw t (omega arith))
    (λ (t : ltb n 10 ≡ false). rw (t, length-append)
    (omega (arith, digits_below j k (n / 10) (omega (arith, rw (pow-suc 10 (suc j)) at h)))))

-- no number has more than 20 digits, a byte at most 3
pub decimal_at_most : (n : ℕ) → length (in_decimal n) ≤ 20
unfolding in_digits
decimal_at_most n = digits_at_most 20 n

pub byte_at_most : (n : ℕ) → n < 256 → length (in_decimal n) ≤ 3
unfolding in_digits
byte_at_most n h = digits_below 2 20 n (omega arith)
