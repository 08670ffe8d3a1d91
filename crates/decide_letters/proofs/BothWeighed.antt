-- Both sides' weights, field by field, and when they can't be the same.
--   Weighing : the fields from f on are weighed; none yet, one that stands as often in both, one more, all; there is room for one more (`weighing-..`)
--   left_lighter, right_lighter, no_steps, by_steps : `uneven_totals` test by test
-- Follows from the definitions; a field that stands as often in both has a surplus of 0.
use Prim.Native.Nat.{ℕ, suc, ◌+◌, ◌-◌, ◌*◌, ◌%◌, ◌≤◌, ◌<◌}
use native.Mathlib.Nat.{mod-zero, zero-mul, zero-add, add-zero, mul-le-mul}
use native.Mathlib.Omega.{arith}
use mathlib.Core.Path.{◌≡◌, sym, ap, ◌∙◌}
use mathlib.Core.Bool.{Bool, true, false, not, ◌&&◌, ◌||◌}
use mathlib.Core.List.{List, [], ◌∷◌}
use lib.Dec.{ltb, eqb}
use lib.ListN.{length}
use Rattle.paper.specs.Lists.{from, upto}
use Rattle.paper.specs.Numbers.{fields, longest_side}
use Rattle.paper.proofs.base.Tests.{left_true, right_true}
use Rattle.paper.proofs.base.Lists.{length_from}
use Rattle.paper_decide.specs.Letters.{divisor, between, Weights, sum_of}
use Rattle.decide_letters.specs.PatternStack.{part}
use Rattle.decide_letters.specs.LettersCoded.{total_over, totals_over, side_with, with_field, HasRoom, lighter, uneven_totals}
use Rattle.decide_letters.specs.declared.totals.Total.{Total}
use Rattle.decide_letters.specs.declared.totals.Totals.{Totals}
use Rattle.decide_letters.proofs.Packing.{Small}
use Rattle.decide_letters.proofs.Divisors.{divisor_zero}

-- One side.
module _ (mine others : ℕ → ℕ) (fixed : ℕ) (weights : ℕ → Weights) where
  one_more : (f : ℕ) (fs : List ℕ)
      → side_with (mine f - others f) (weights f) (total_over mine others fixed weights fs) ≡ total_over mine others fixed weights (f ∷ fs)
  one_more f fs i =
      record {
        least = behind (sum_of (λ (g : ℕ). (mine g - others g) * (weights g).least) fs) ((mine f - others f) * (weights f).least) i;
        most = behind (sum_of (λ (g : ℕ). (mine g - others g) * (weights g).most) fs) ((mine f - others f) * (weights f).most) i;
        endless = (ltb 0 (mine f - others f) && (weights f).endless) || (total_over mine others fixed weights fs).endless;
      }
    where
      behind : (s x : ℕ) → fixed + s + x ≡ fixed + (x + s)
      behind s x = omega arith

  one_alike : (f : ℕ) (fs : List ℕ) → mine f ≡ others f → total_over mine others fixed weights fs ≡ total_over mine others fixed weights (f ∷ fs)
  one_alike f fs e =
      let none : mine f - others f ≡ 0 = omega arith in
      (λ i.
      record {
        least = nothing (sum_of (λ (g : ℕ). (mine g - others g) * (weights g).least) fs) (weights f).least (mine f - others f) none i;
        most = nothing (sum_of (λ (g : ℕ). (mine g - others g) * (weights g).most) fs) (weights f).most (mine f - others f) none i;
        endless = ap (λ (n : ℕ). (ltb 0 n && (weights f).endless) || (total_over mine others fixed weights fs).endless) (sym none) i;
      })
    where
      nothing : (s x n : ℕ) → n ≡ 0 → fixed + s ≡ fixed + (n * x + s)
      nothing s x n z = rw (z, zero-mul x) (ap (λ (m : ℕ). fixed + m) (sym (zero-add s)))

  module _ (small : (f : ℕ) → Small (weights f)) (few : (f : ℕ) → mine f ≤ longest_side) where
    term_small : (f w : ℕ) → w < part → (mine f - others f) * w ≤ longest_side * part
    term_small f w h =
        mul-le-mul {n₁ = mine f - others f} {m₁ = w} (let k : mine f - others f ≤ longest_side = omega (arith, few f) in k) (let k : w ≤ part = omega arith in k)

    total_small : (fs : List ℕ)
        → ((total_over mine others fixed weights fs).least ≤ fixed + length fs * (longest_side * part))
        × ((total_over mine others fixed weights fs).most ≤ fixed + length fs * (longest_side * part))
    total_small [] = (omega arith, omega arith)
    total_small (f ∷ fs) =
        let rest = total_small fs in (
          omega (arith, rest.0, term_small f (weights f).least (small f).least),
          omega (arith, rest.1, term_small f (weights f).most (small f).most),
        )

-- the fields from the one before f on
from_before : (f : ℕ) → 0 < f → f ≤ fields → from (f - 1) (fields - (f - 1)) ≡ (f - 1) ∷ from f (fields - f)
from_before f h k =
    let e : fields - (f - 1) ≡ suc (fields - f) = omega arith in
    let s : suc (f - 1) ≡ f = omega arith in
    ap (from (f - 1)) e ∙ ap (λ (g : ℕ). (f - 1) ∷ from g (fields - f)) s

-- Both sides.
module _ (lefts rights : ℕ → ℕ) (a b : ℕ) (weights : ℕ → Weights) where
  pub record Weighing (t : Totals) (f : ℕ) : Type 0 where
    pub within : f ≤ fields
    pub is : t ≡ totals_over lefts rights a b weights (from f (fields - f))

  fixed_alone : (x : ℕ) → ◌≡◌ {A = Total} (record { least = x; most = x; endless = false }) (record { least = x + 0; most = x + 0; endless = false })
  fixed_alone x i = record { least = sym (add-zero x) i; most = sym (add-zero x) i; endless = false }

  pub weighing_none : Weighing (record { left = record { least = a; most = a; endless = false }; right = record { least = b; most = b; endless = false }; steps = 0 }) fields
  weighing_none = record { within = omega arith; is = λ i. record { left = fixed_alone a i; right = fixed_alone b i; steps = 0 } }

  both_more : (f : ℕ) (fs : List ℕ)
      → with_field (lefts f) (rights f) (weights f) (totals_over lefts rights a b weights fs) ≡ totals_over lefts rights a b weights (f ∷ fs)
  both_more f fs i =
      record {
        left = one_more lefts rights a weights f fs i;
        right = one_more rights lefts b weights f fs i;
        steps = (totals_over lefts rights a b weights (f ∷ fs)).steps;
      }

  both_alike : (f : ℕ) (fs : List ℕ) → lefts f ≡ rights f → totals_over lefts rights a b weights fs ≡ totals_over lefts rights a b weights (f ∷ fs)
  both_alike f fs e =
      let rest = (totals_over lefts rights a b weights fs).steps in
      let none : between (lefts f) (rights f) ≡ 0 = omega arith in
      (λ i.
      record {
        left = one_alike lefts rights a weights f fs e i;
        right = one_alike rights lefts b weights f fs (sym e) i;
        steps = (sym (divisor_zero rest) ∙ ap (λ (n : ℕ). divisor n rest) (sym (ap (λ (n : ℕ). n * (weights f).step) none ∙ zero-mul (weights f).step))) i;
      })

  module _ (t : Totals) (f : ℕ) (x : Weighing t f) (h : 0 < f) where
    before : from (f - 1) (fields - (f - 1)) ≡ (f - 1) ∷ from f (fields - f)
    before = from_before f h x.within

    pub weighing_alike : lefts (f - 1) ≡ rights (f - 1) → Weighing t (f - 1)
    weighing_alike e = record { within = omega (arith, x.within); is = rw before (x.is ∙ both_alike (f - 1) (from f (fields - f)) e) }

    pub weighing_more : (w : Weights) → w ≡ weights (f - 1) → (u : Totals) → u ≡ with_field (lefts (f - 1)) (rights (f - 1)) w t → Weighing u (f - 1)
    weighing_more w is-w u is-u =
        record {
          within = omega (arith, x.within);
          is = rw before (is-u ∙ (λ i. with_field (lefts (f - 1)) (rights (f - 1)) (is-w i) (x.is i)) ∙ both_more (f - 1) (from f (fields - f)));
        }

  pub weighing_all : (t : Totals) (f : ℕ) → Weighing t f → f ≡ 0 → t ≡ totals_over lefts rights a b weights (upto fields)
  weighing_all t f x none = x.is ∙ ap (λ (n : ℕ). totals_over lefts rights a b weights (from n (fields - n))) none

  -- no sum is large
  module _ (small : (f : ℕ) → Small (weights f)) (few-lefts : (f : ℕ) → lefts f ≤ longest_side) (few-rights : (f : ℕ) → rights f ≤ longest_side)
      (light-a : a ≤ longest_side) (light-b : b ≤ longest_side) where
    pub weighing_room : (t : Totals) (f : ℕ) → Weighing t f → HasRoom t
    weighing_room t f x =
        let fs = from f (fields - f) in
        let many = length_from f (fields - f) in
        let left = total_small lefts rights a weights small few-lefts fs in
        let right = total_small rights lefts b weights small few-rights fs in
        record {
          left_least = omega (arith, ap (λ (u : Totals). u.left.least) x.is, left.0, many);
          left_most = omega (arith, ap (λ (u : Totals). u.left.most) x.is, left.1, many);
          right_least = omega (arith, ap (λ (u : Totals). u.right.least) x.is, right.0, many);
          right_most = omega (arith, ap (λ (u : Totals). u.right.most) x.is, right.1, many);
        }

module _ (t : Totals) where
  abbrev left_tested : Bool
  left_tested = lighter t.left t.right.least

  abbrev right_tested : Bool
  right_tested = lighter t.right t.left.least

  abbrev apart : ℕ
  apart = between t.left.least t.right.least

  pub left_lighter : left_tested ≡ true → true ≡ uneven_totals t
  left_lighter h = sym (left_true left_tested _ h)

  pub right_lighter : right_tested ≡ true → true ≡ uneven_totals t
  right_lighter h = sym (right_true left_tested _ (left_true right_tested _ h))

  pub by_steps : (x : ℕ) → x ≡ apart → left_tested ≡ false → right_tested ≡ false → not (eqb (x % t.steps) 0) ≡ uneven_totals t
  by_steps x e f g = rw (f, g, e)

  pub no_steps : (x : ℕ) → x ≡ apart → t.steps ≡ 0 → left_tested ≡ false → right_tested ≡ false → not (eqb x 0) ≡ uneven_totals t
  no_steps x e none f g =
      ap (λ (n : ℕ). not (eqb n 0)) (sym (mod-zero x) ∙ ap (λ (n : ℕ). x % n) (sym none)) ∙ by_steps x e f g
