-- The places of a set, as digits of its mask: those of either and of both of two sets, of one place alone; and the lowest one, which x and x - 1 take out.
use Prim.Native.Nat.{ℕ, zero, suc, ◌+◌, ◌*◌, ◌-◌, ◌/◌, ◌%◌, ◌^◌, ◌<◌, min, max, zero-le}
use native.Mathlib.Nat.{div-div-eq-div-mul, pow-succ', pow-suc, one-mul, mod-eq_of_lt}
use native.Mathlib.Omega.{arith}
use mathlib.Core.Path.{◌≡◌, refl, sym, ap, ap₂, ◌∙◌}
use mathlib.Core.Bool.{Bool, true, false, not, ◌&&◌, ◌||◌, and-true}
use mathlib.Core.Logic.{◌⊎◌, inl, inr}
use lib.Bits.{bit_and, bit_or, and_step, or_step, and_shr, or_shr}
use lib.Count.{count_trailing_zeros, under}
use lib.Pow.{pow-lt}
use lib.Dec.{eqb, ltb, eqb-zero-suc, eqb-suc-zero, eqb-suc-suc}
use Rattle.paper.proofs.base.Tests.{by_bool, true_false, right_false, eqb_true, eqb_same, eq_eqb, neq_eqb, ltb_true, ltb_false}
use Rattle.base_places.specs.Masks.{places, in_mask}
use Rattle.base_places.proofs.MaskOf.{in_mask_out}

or_digit : (b u v : ℕ) → u < 2 → v < 2 → eqb ((b * 2 + max u v) % 2) 1 ≡ (eqb u 1 || eqb v 1)
or_digit b zero zero h k = neq_eqb ((b * 2 + 0) % 2) 1 (λ e. omega arith)
or_digit b zero (suc zero) h k = eq_eqb ((b * 2 + 1) % 2) 1 (omega arith)
or_digit b (suc zero) zero h k = eq_eqb ((b * 2 + 1) % 2) 1 (omega arith)
or_digit b (suc zero) (suc zero) h k = eq_eqb ((b * 2 + 1) % 2) 1 (omega arith)
or_digit b zero (suc (suc v)) h k = absurd (omega arith)
or_digit b (suc (suc u)) v h k = absurd (omega arith)
or_digit b (suc zero) (suc (suc v)) h k = absurd (omega arith)

and_digit : (b u v : ℕ) → u < 2 → v < 2 → eqb ((b * 2 + min u v) % 2) 1 ≡ (eqb u 1 && eqb v 1)
and_digit b zero zero h k = neq_eqb ((b * 2 + 0) % 2) 1 (λ e. omega arith)
and_digit b zero (suc zero) h k = neq_eqb ((b * 2 + 0) % 2) 1 (λ e. omega arith)
and_digit b (suc zero) zero h k = neq_eqb ((b * 2 + 0) % 2) 1 (λ e. omega arith)
and_digit b (suc zero) (suc zero) h k = eq_eqb ((b * 2 + 1) % 2) 1 (omega arith)
and_digit b zero (suc (suc v)) h k = absurd (omega arith)
and_digit b (suc (suc u)) v h k = absurd (omega arith)
and_digit b (suc zero) (suc (suc v)) h k = absurd (omega arith)

pub in_mask_or : (a b i : ℕ) → in_mask (bit_or a b) i ≡ (in_mask a i || in_mask b i)
unfolding in_mask
in_mask_or a b i =
    let x = a / 2 ^ i in
    let y = b / 2 ^ i in
    ap (λ (n : ℕ). eqb (n % 2) 1) (or_shr a b i ∙ or_step x y) ∙ or_digit (bit_or (x / 2) (y / 2)) (x % 2) (y % 2) (omega arith) (omega arith)

pub in_mask_and : (a b i : ℕ) → in_mask (bit_and a b) i ≡ (in_mask a i && in_mask b i)
unfolding in_mask
in_mask_and a b i =
    let x = a / 2 ^ i in
    let y = b / 2 ^ i in
    ap (λ (n : ℕ). eqb (n % 2) 1) (and_shr a b i ∙ and_step x y) ∙ and_digit (bit_and (x / 2) (y / 2)) (x % 2) (y % 2) (omega arith) (omega arith)

pub in_mask_none : (i : ℕ) → in_mask 0 i ≡ false
in_mask_none i = in_mask_out 0 0 i (omega arith) zero-le

-- a place of a set is one
pub in_narrow : (m i : ℕ) → m < 2 ^ places → in_mask m i ≡ true → i < places
in_narrow m i l h =
    by_bool (ltb i places) (λ e. ltb_true i places e) (λ e. absurd (true_false h (in_mask_out places m i l (ltb_false i places e))))

-- the digits but the lowest are those of half the number
pub in_mask_zero : (m : ℕ) → in_mask m 0 ≡ eqb (m % 2) 1
unfolding in_mask
in_mask_zero m = ap (λ (x : ℕ). eqb (x % 2) 1) (let e : m / 1 ≡ m = omega arith in e)

in_mask_suc : (m i : ℕ) → in_mask m (suc i) ≡ in_mask (m / 2) i
unfolding in_mask
in_mask_suc m i = rw (pow-succ' 2 i, ← (div-div-eq-div-mul m 2 (2 ^ i)))

pub in_mask_one : (i q : ℕ) → in_mask (2 ^ i) q ≡ eqb i q
in_mask_one zero zero = in_mask_zero 1
in_mask_one zero (suc q) = in_mask_suc 1 q ∙ in_mask_none q ∙ sym (eqb-zero-suc q)
in_mask_one (suc i) zero =
    in_mask_zero (2 ^ suc i) ∙ neq_eqb (2 ^ suc i % 2) 1 (λ e. let p = pow-suc 2 i in omega arith) ∙ sym (eqb-suc-zero i)
in_mask_one (suc i) (suc q) =
    in_mask_suc (2 ^ suc i) q
    ∙ ap (λ (x : ℕ). in_mask x q) (let p = pow-suc 2 i in let e : 2 ^ suc i / 2 ≡ 2 ^ i = omega arith in e)
    ∙ in_mask_one i q
    ∙ sym (eqb-suc-suc i q)

-- what the code shifts
pub mark_is : (i : ℕ) → i < places → 1 * 2 ^ i % 2 ^ places ≡ 2 ^ i
mark_is i h = ap (λ (m : ℕ). m % 2 ^ places) (one-mul (2 ^ i)) ∙ mod-eq_of_lt (pow-lt {i = i} {j = places} h)

-- j is the lowest place of the set x, and without it the set is that of `x & (x - 1)`
pub record Lowest (x j : ℕ) : Type 0 where
  pub stands : in_mask x j ≡ true
  pub rest : (q : ℕ) → in_mask (bit_and x (x - 1)) q ≡ (in_mask x q && not (eqb j q))

module _ {x j : ℕ} (low : Lowest x j) where
  pub lowest_out : in_mask (bit_and x (x - 1)) j ≡ false
  lowest_out = low.rest j ∙ right_false (in_mask x j) (not (eqb j j)) (ap not (eqb_same j))

  pub only_lowest_out : (i : ℕ) → in_mask (bit_and x (x - 1)) i ≡ false → (in_mask x i ≡ false) ⊎ (i ≡ j)
  only_lowest_out i h =
      by_bool (eqb j i) (λ e. inr (sym (eqb_true j i e)))
      (λ e. inl (sym (and-true (in_mask x i)) ∙ ap (λ (b : Bool). in_mask x i && b) (sym (ap not e)) ∙ sym (low.rest i) ∙ h))

lowest_odd : (x : ℕ) → x % 2 ≡ 1 → Lowest x 0
lowest_odd x e = record { stands = in_mask_zero x ∙ eq_eqb (x % 2) 1 e; rest = λ (q : ℕ). in_mask_and x (x - 1) q ∙ at q }
  where
    at : (q : ℕ) → (in_mask x q && in_mask (x - 1) q) ≡ (in_mask x q && not (eqb 0 q))
    at zero = ap (λ (b : Bool). in_mask x 0 && b) (in_mask_zero (x - 1) ∙ neq_eqb ((x - 1) % 2) 1 (λ f. omega arith))
    at (suc q) =
        let h : (x - 1) / 2 ≡ x / 2 = omega arith in
        ap₂ ◌&&◌ (in_mask_suc x q) (in_mask_suc (x - 1) q ∙ ap (λ (y : ℕ). in_mask y q) h)
        ∙ both_same (in_mask (x / 2) q)
        ∙ sym (ap₂ ◌&&◌ (in_mask_suc x q) (ap not (eqb-zero-suc q)) ∙ and-true (in_mask (x / 2) q))
      where
        both_same : (b : Bool) → b && b ≡ b
        both_same true = refl
        both_same false = refl

lowest_even : (x j : ℕ) → x % 2 ≡ 0 → 0 < x → Lowest (x / 2) j → Lowest x (suc j)
lowest_even x j e l h =
    record { stands = in_mask_suc x j ∙ h.stands; rest = λ (q : ℕ). in_mask_and x (x - 1) q ∙ at q }
  where
    at : (q : ℕ) → (in_mask x q && in_mask (x - 1) q) ≡ (in_mask x q && not (eqb (suc j) q))
    at zero =
        let n : in_mask x 0 ≡ false = in_mask_zero x ∙ neq_eqb (x % 2) 1 (λ f. omega arith) in
        rw n refl
    at (suc q) =
        let f : (x - 1) / 2 ≡ x / 2 - 1 = omega arith in
        ap₂ ◌&&◌ (in_mask_suc x q) (in_mask_suc (x - 1) q ∙ ap (λ (y : ℕ). in_mask y q) f)
        ∙ sym (in_mask_and (x / 2) (x / 2 - 1) q)
        ∙ h.rest q
        ∙ sym (ap₂ ◌&&◌ (in_mask_suc x q) (ap not (eqb-suc-suc j q)))

pub lowest : (k x : ℕ) → 0 < x → x < 2 ^ k → Lowest x (count_trailing_zeros k x)
unfolding count_trailing_zeros
lowest zero x h l = absurd (omega arith)
lowest (suc k) x h l =
    by (x % 2) refl (λ (e : x % 2 ≡ 0). lowest k (x / 2) (omega arith) (let p = pow-suc 2 k in omega arith))
  where
    by : (d : ℕ) → x % 2 ≡ d → (x % 2 ≡ 0 → Lowest (x / 2) (count_trailing_zeros k (x / 2))) → Lowest x (under d (count_trailing_zeros k (x / 2)))
    by zero e f = lowest_even x (count_trailing_zeros k (x / 2)) e h (f e)
    by (suc d) e f = lowest_odd x (let g : x % 2 ≡ 1 = omega arith in g)

module _ (x : ℕ) (some : x ≡ 0 → ⊥) (l : x < 2 ^ places) where
  pub lowest_of : Lowest x (count_trailing_zeros places x)
  lowest_of = lowest places x (omega arith) l

  pub lowest_below : count_trailing_zeros places x < places
  lowest_below = in_narrow x (count_trailing_zeros places x) l lowest_of.stands
