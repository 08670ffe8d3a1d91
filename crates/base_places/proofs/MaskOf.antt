-- Masks of tests: `below n t` is the mask of the places below n that pass the test t. Its digits are what the test says, so `or` and
-- `and` of masks are `||` and `&&` of tests, and every number below 2 ^ n is the mask of its own digits.
-- By induction on n, lowest digit first. At n = `places` these are the laws of `mask_of`.
use Prim.Native.Nat.{ℕ, zero, suc, ◌+◌, ◌*◌, ◌/◌, ◌%◌, ◌^◌, ◌≤◌, ◌<◌, min, max}
use native.Mathlib.Nat.{div-div-eq-div-mul, pow-succ'}
use native.Mathlib.Omega.{arith}
use mathlib.Core.Path.{◌≡◌, refl, sym, ap, ap₂, ◌∙◌}
use mathlib.Core.Bool.{Bool, true, false, cond, ◌&&◌, ◌||◌}
use mathlib.Core.List.{◌++◌}
use lib.Dec.{eqb, eqb-zero-suc, eqb-suc-zero, eqb-suc-suc}
use lib.Bits.{bit_and, bit_or, and_step, or_step}
use Rattle.paper.specs.Lists.{from, upto, only, keep}
use Rattle.paper.proofs.base.Tests.{eq_eqb, neq_eqb}
use Rattle.paper.specs.Places.{PlaceSet}
use Rattle.base_places.specs.Masks.{places, mask, mask_of, in_mask}

abbrev pub below : ℕ → (ℕ → Bool) → ℕ
below n t = mask (keep t (upto n))

-- the digit of a test
abbrev digit : Bool → ℕ
digit true = 1
digit false = 0

half : (b : Bool) (m : ℕ) → (digit b + 2 * m) / 2 ≡ m
half true m = omega arith
half false m = omega arith

odd : (b : Bool) (m : ℕ) → (digit b + 2 * m) % 2 ≡ digit b
odd true m = omega arith
odd false m = omega arith

-- the same test one place on
only_shift : (b : Bool) (i : ℕ) (s u : PlaceSet) → mask s ≡ 2 * mask u → mask (only b (suc i) ++ s) ≡ 2 * mask (only b i ++ u)
only_shift true i s u e = omega arith
only_shift false i s u e = e

shift : (t : ℕ → Bool) (i n : ℕ) → mask (keep t (from (suc i) n)) ≡ 2 * mask (keep (λ (q : ℕ). t (suc q)) (from i n))
shift t i zero = refl
shift t i (suc n) =
    only_shift (t (suc i)) i (keep t (from (suc (suc i)) n)) (keep (λ (q : ℕ). t (suc q)) (from (suc i) n)) (shift t (suc i) n)

only_zero : (b : Bool) (s : PlaceSet) → mask (only b 0 ++ s) ≡ digit b + mask s
only_zero true s = refl
only_zero false s = omega arith

-- lowest digit first
below_suc : (n : ℕ) (t : ℕ → Bool) → below (suc n) t ≡ digit (t 0) + 2 * below n (λ (q : ℕ). t (suc q))
below_suc n t = only_zero (t 0) (keep t (from 1 n)) ∙ ap (λ (m : ℕ). digit (t 0) + m) (shift t 0 n)

-- tests that say the same of every place have the same mask
pub below_same : (n : ℕ) (t u : ℕ → Bool) → ((q : ℕ) → q < n → t q ≡ u q) → below n t ≡ below n u
below_same zero t u h = refl
below_same (suc n) t u h =
    below_suc n t
    ∙ ap₂ (λ (b : Bool) (m : ℕ). digit b + 2 * m) (h 0 (omega arith))
    (below_same n (λ (q : ℕ). t (suc q)) (λ (q : ℕ). u (suc q)) (λ q l. h (suc q) (omega arith)))
    ∙ sym (below_suc n u)

pub below_none : (n : ℕ) → below n (λ (q : ℕ). false) ≡ 0
below_none zero = refl
below_none (suc n) = rw (below_suc n (λ (q : ℕ). false), below_none n) refl

-- or, and
digit_or : (a b : Bool) → max (digit a) (digit b) ≡ digit (a || b)
digit_or true true = refl
digit_or true false = refl
digit_or false true = refl
digit_or false false = refl

digit_and : (a b : Bool) → min (digit a) (digit b) ≡ digit (a && b)
digit_and true true = refl
digit_and true false = refl
digit_and false true = refl
digit_and false false = refl

or_digits : (a b : Bool) (m n : ℕ) → bit_or (digit a + 2 * m) (digit b + 2 * n) ≡ digit (a || b) + 2 * bit_or m n
or_digits a b m n =
    or_step (digit a + 2 * m) (digit b + 2 * n)
    ∙ ap₂ (λ (x y : ℕ). x * 2 + y)
    (ap₂ bit_or (half a m) (half b n))
    (ap₂ max (odd a m) (odd b n) ∙ digit_or a b)
    ∙ omega arith

and_digits : (a b : Bool) (m n : ℕ) → bit_and (digit a + 2 * m) (digit b + 2 * n) ≡ digit (a && b) + 2 * bit_and m n
and_digits a b m n =
    and_step (digit a + 2 * m) (digit b + 2 * n)
    ∙ ap₂ (λ (x y : ℕ). x * 2 + y)
    (ap₂ bit_and (half a m) (half b n))
    (ap₂ min (odd a m) (odd b n) ∙ digit_and a b)
    ∙ omega arith

pub below_or : (n : ℕ) (t u : ℕ → Bool) → bit_or (below n t) (below n u) ≡ below n (λ (q : ℕ). t q || u q)
below_or zero t u = refl
below_or (suc n) t u =
    ap₂ bit_or (below_suc n t) (below_suc n u)
    ∙ or_digits (t 0) (u 0) (below n (λ (q : ℕ). t (suc q))) (below n (λ (q : ℕ). u (suc q)))
    ∙ ap (λ (m : ℕ). digit (t 0 || u 0) + 2 * m) (below_or n (λ (q : ℕ). t (suc q)) (λ (q : ℕ). u (suc q)))
    ∙ sym (below_suc n (λ (q : ℕ). t q || u q))

pub below_and : (n : ℕ) (t u : ℕ → Bool) → bit_and (below n t) (below n u) ≡ below n (λ (q : ℕ). t q && u q)
below_and zero t u = refl
below_and (suc n) t u =
    ap₂ bit_and (below_suc n t) (below_suc n u)
    ∙ and_digits (t 0) (u 0) (below n (λ (q : ℕ). t (suc q))) (below n (λ (q : ℕ). u (suc q)))
    ∙ ap (λ (m : ℕ). digit (t 0 && u 0) + 2 * m) (below_and n (λ (q : ℕ). t (suc q)) (λ (q : ℕ). u (suc q)))
    ∙ sym (below_suc n (λ (q : ℕ). t q && u q))

-- a mask, or none
pub below_cond : (n : ℕ) (b : Bool) (t : ℕ → Bool) → cond b (below n t) 0 ≡ below n (λ (q : ℕ). b && t q)
below_cond n true t = refl
below_cond n false t = sym (below_none n)

-- the digits of a number
in_mask_zero : (b : Bool) (m : ℕ) → in_mask (digit b + 2 * m) 0 ≡ b
unfolding in_mask
in_mask_zero true m = eq_eqb ((1 + 2 * m) / 1 % 2) 1 (omega arith)
in_mask_zero false m = neq_eqb ((0 + 2 * m) / 1 % 2) 1 (omega arith)

in_mask_suc : (m i : ℕ) → in_mask m (suc i) ≡ in_mask (m / 2) i
unfolding in_mask
in_mask_suc m i = rw (pow-succ' 2 i, ← (div-div-eq-div-mul m 2 (2 ^ i)))

pub in_below : (n : ℕ) (t : ℕ → Bool) (i : ℕ) → i < n → in_mask (below n t) i ≡ t i
in_below zero t i h = absurd (omega arith)
in_below (suc n) t zero h = rw (below_suc n t) (in_mask_zero (t 0) (below n (λ (q : ℕ). t (suc q))))
in_below (suc n) t (suc i) h =
    rw (below_suc n t, in_mask_suc (digit (t 0) + 2 * below n (λ (q : ℕ). t (suc q))) i, half (t 0) (below n (λ (q : ℕ). t (suc q))))
    (in_below n (λ (q : ℕ). t (suc q)) i (omega arith))

digit_eqb : (r : ℕ) → r < 2 → digit (eqb r 1) ≡ r
digit_eqb zero h = refl
digit_eqb (suc zero) h = refl
digit_eqb (suc (suc r)) h = absurd (omega arith)

digit_is : (m : ℕ) → digit (in_mask m 0) ≡ m % 2
unfolding in_mask
digit_is m = digit_eqb (m / 1 % 2) (omega arith) ∙ omega arith

-- every number below 2 ^ n is the mask of its digits
pub below_digits : (n m : ℕ) → m < 2 ^ n → below n (λ (q : ℕ). in_mask m q) ≡ m
below_digits zero m h = omega arith
below_digits (suc n) m h =
    below_suc n (λ (q : ℕ). in_mask m q)
    ∙ ap₂ (λ (x y : ℕ). x + 2 * y) (digit_is m)
    (below_same n (λ (q : ℕ). in_mask m (suc q)) (λ (q : ℕ). in_mask (m / 2) q) (λ q l. in_mask_suc m q)
    ∙ below_digits n (m / 2) (omega arith))
    ∙ omega arith

-- behind the digits of a number there are none
in_mask_none : (i : ℕ) → in_mask 0 i ≡ false
unfolding in_mask
in_mask_none zero = refl
in_mask_none (suc i) = in_mask_suc 0 i ∙ in_mask_none i

pub in_mask_out : (n m i : ℕ) → m < 2 ^ n → n ≤ i → in_mask m i ≡ false
in_mask_out zero m i h l = let e : m ≡ 0 = omega arith in rw e (in_mask_none i)
in_mask_out (suc n) m zero h l = absurd (omega arith)
in_mask_out (suc n) m (suc i) h l = in_mask_suc m i ∙ in_mask_out n (m / 2) i (omega arith) (omega arith)

-- the mask of one place, and of a place that is not there
pub below_one : (n i : ℕ) → i < n → below n (λ (q : ℕ). eqb i q) ≡ 2 ^ i
below_one zero i h = absurd (omega arith)
below_one (suc n) zero h =
    below_suc n (λ (q : ℕ). eqb 0 q)
    ∙ ap (λ (m : ℕ). 1 + 2 * m)
    (below_same n (λ (q : ℕ). eqb 0 (suc q)) (λ (q : ℕ). false) (λ q l. eqb-zero-suc q) ∙ below_none n)
below_one (suc n) (suc i) h =
    below_suc n (λ (q : ℕ). eqb (suc i) q)
    ∙ ap₂ (λ (b : Bool) (m : ℕ). digit b + 2 * m) (eqb-suc-zero i)
    (below_same n (λ (q : ℕ). eqb (suc i) (suc q)) (λ (q : ℕ). eqb i q) (λ q l. eqb-suc-suc i q) ∙ below_one n i (omega arith))
    ∙ omega arith

pub below_out : (n i : ℕ) → n ≤ i → below n (λ (q : ℕ). eqb i q) ≡ 0
below_out n i h =
    below_same n (λ (q : ℕ). eqb i q) (λ (q : ℕ). false) (λ q l. neq_eqb i q (λ e. omega arith)) ∙ below_none n

-- The laws of `mask_of`.
module _ (t : ℕ → Bool) where
  pub in_mask_of : (i : ℕ) → i < places → in_mask (mask_of t) i ≡ t i
  unfolding mask_of
  in_mask_of = in_below places t

  pub mask_of_cond : (b : Bool) → cond b (mask_of t) 0 ≡ mask_of (λ (q : ℕ). b && t q)
  unfolding mask_of
  mask_of_cond b = below_cond places b t

  module _ (u : ℕ → Bool) where
    pub mask_of_same : ((q : ℕ) → q < places → t q ≡ u q) → mask_of t ≡ mask_of u
    unfolding mask_of
    mask_of_same = below_same places t u

    pub mask_of_or : bit_or (mask_of t) (mask_of u) ≡ mask_of (λ (q : ℕ). t q || u q)
    unfolding mask_of
    mask_of_or = below_or places t u

    pub mask_of_and : bit_and (mask_of t) (mask_of u) ≡ mask_of (λ (q : ℕ). t q && u q)
    unfolding mask_of
    mask_of_and = below_and places t u

pub mask_of_none : mask_of (λ (q : ℕ). false) ≡ 0
unfolding mask_of
mask_of_none = below_none places

pub mask_of_one : (i : ℕ) → i < places → mask_of (λ (q : ℕ). eqb i q) ≡ 2 ^ i
unfolding mask_of
mask_of_one = below_one places

pub mask_of_out : (i : ℕ) → places ≤ i → mask_of (λ (q : ℕ). eqb i q) ≡ 0
unfolding mask_of
mask_of_out = below_out places

pub mask_of_digits : (m : ℕ) → m < 2 ^ places → mask_of (λ (q : ℕ). in_mask m q) ≡ m
unfolding mask_of
mask_of_digits = below_digits places
