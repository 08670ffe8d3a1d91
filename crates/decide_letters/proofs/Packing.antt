-- Weights in one number, and back.
--   packed_again : unpacked (packed w) ≡ w, where each number is below 65,536
--   same_packed  : of equal parts
-- Follows from the digits of a number.
use Prim.Native.Nat.{ℕ, ◌+◌, ◌*◌, ◌/◌, ◌%◌, ◌<◌}
use native.Mathlib.Nat.{mod-eq_of_lt}
use native.Mathlib.Omega.{arith}
use mathlib.Core.Path.{◌≡◌, refl, ap, ◌∙◌}
use mathlib.Core.Bool.{Bool, true, false}
use lib.Dec.{eqb}
use Rattle.paper_decide.specs.Letters.{one_if, Weights}
use Rattle.decide_letters.specs.PatternStack.{part, packed, unpacked}

-- numbers that have room
pub record Small (w : Weights) : Type 0 where
  pub least : w.least < part
  pub step : w.step < part
  pub most : w.most < part

flag_again : (b : Bool) → eqb (one_if b % 2) 1 ≡ b
flag_again true = refl
flag_again false = refl

-- the four parts of a number
module _ (a b c d : ℕ) (ha : a < part) (hb : b < part) (hc : c < part) where
  abbrev whole : ℕ
  whole = a + part * (b + part * (c + part * d))

  first_part : whole % part ≡ a
  first_part = omega arith

  second_part : whole / part % part ≡ b
  second_part = let e : whole / part ≡ b + part * (c + part * d) = omega arith in omega arith

  third_part : whole / (part * part) % part ≡ c
  third_part = let e : whole / (part * part) ≡ c + part * d = omega arith in omega arith

  last_part : whole / (part * part * part) ≡ d
  last_part = omega arith

pub packed_again : (w : Weights) → Small w → unpacked (packed w) ≡ w
unfolding packed unpacked
packed_again w h =
    let a = mod-eq_of_lt h.least in
    let b = mod-eq_of_lt h.step in
    let c = mod-eq_of_lt h.most in
    rw (a, b, c)
    (λ i.
    record {
      least = first_part w.least w.step w.most (one_if w.endless) h.least h.step h.most i;
      step = second_part w.least w.step w.most (one_if w.endless) h.least h.step h.most i;
      endless =
          (ap (λ (n : ℕ). eqb (n % 2) 1) (last_part w.least w.step w.most (one_if w.endless) h.least h.step h.most) ∙ flag_again w.endless) i;
      most = third_part w.least w.step w.most (one_if w.endless) h.least h.step h.most i;
    })

pub same_packed : {l m s t u v : ℕ} {e f : Bool} → l ≡ m → s ≡ t → e ≡ f → u ≡ v
    → packed (record { least = l; step = s; endless = e; most = u }) ≡ packed (record { least = m; step = t; endless = f; most = v })
same_packed p q r z = ap packed (λ i. record { least = p i; step = q i; endless = r i; most = z i })
