-- The common divisor: of 0 and a number that number, never more than both together, and turn by turn.
--   divisor_zero : divisor 0 b ≡ b
--   divisor_le   : divisor a b ≤ a + b
--   Turning      : what is left to do gives the divisor; begun, one turn more, done
-- Follows by induction on the turns: b falls with each.
use Prim.Native.Nat.{ℕ, zero, suc, ◌+◌, ◌%◌, ◌≤◌, ◌<◌}
use native.Mathlib.Nat.{mod-lt, mod-le, zero-mod}
use native.Mathlib.Omega.{arith}
use mathlib.Core.Path.{◌≡◌, refl, sym, ap, ◌∙◌}
use mathlib.Core.Bool.{true, false}
use lib.Dec.{eqb}
use Rattle.paper.proofs.base.Tests.{cond_by, cond_false, by_bool, eqb_true, eqb_false, neq_eqb}
use Rattle.paper_decide.specs.Letters.{divisor_within, divisor}

within_le : (n a b : ℕ) → b < n → divisor_within n a b ≤ a + b
within_le zero a b h = absurd (omega arith)
within_le (suc n) a b h =
    cond_by (λ (d : ℕ). d ≤ a + b) (eqb b 0) (λ _. omega arith)
    (λ e.
    let some = eqb_false b 0 e in
    let below = mod-lt a {m = b} (omega (arith, some)) in
    omega (arith, within_le n b (a % b) (omega arith), mod-le a b))

pub divisor_le : (a b : ℕ) → divisor a b ≤ a + b
unfolding divisor
divisor_le a b = within_le (suc b) a b (omega arith)

zero_within : (n b : ℕ) → b < n → divisor_within n 0 b ≡ b
zero_within zero b h = absurd (omega arith)
zero_within (suc zero) b h = let e : b ≡ 0 = omega arith in rw e
zero_within (suc (suc n)) b h =
    by_bool (eqb b 0)
    (λ (e : eqb b 0 ≡ true). rw e (sym (eqb_true b 0 e)))
    (λ (e : eqb b 0 ≡ false). rw (e, zero-mod b))

pub divisor_zero : (b : ℕ) → divisor 0 b ≡ b
unfolding divisor
divisor_zero b = zero_within (suc b) b (omega arith)

-- With n turns left, x and y give the divisor of a and b.
pub record Turning (a b x y : ℕ) : Type 0 where
  pub turns : ℕ
  pub enough : y < turns
  pub gives : divisor_within turns x y ≡ divisor a b

pub turning_first : (a b : ℕ) → Turning a b a b
unfolding divisor
turning_first a b = record { turns = suc b; enough = omega arith; gives = refl }

turned : (a b x y n : ℕ) → y < n → divisor_within n x y ≡ divisor a b → (y ≡ 0 → ⊥) → Turning a b y (x % y)
turned a b x y zero h e some = absurd (omega arith)
turned a b x y (suc n) h e some =
    let below = mod-lt x {m = y} (omega (arith, some)) in
    record {
      turns = n;
      enough = omega arith;
      gives = sym (cond_false (eqb y 0) x (divisor_within n y (x % y)) (neq_eqb y 0 some)) ∙ e;
    }

pub turning_on : (a b x y : ℕ) → Turning a b x y → (y ≡ 0 → ⊥) → Turning a b y (x % y)
turning_on a b x y t some = turned a b x y t.turns t.enough t.gives some

done : (a b x n : ℕ) → 0 < n → divisor_within n x 0 ≡ divisor a b → x ≡ divisor a b
done a b x zero h e = absurd (omega arith)
done a b x (suc n) h e = e

pub turning_done : (a b x y : ℕ) → Turning a b x y → y ≡ 0 → x ≡ divisor a b
turning_done a b x y t none =
    done a b x t.turns (let e = t.enough in omega arith) (ap (λ (z : ℕ). divisor_within t.turns x z) (sym none) ∙ t.gives)
