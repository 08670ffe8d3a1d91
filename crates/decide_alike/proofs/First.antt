-- The first number that passes a test, as a list of one or none, and as a test of whether there is one:
--   first_kept  : take 1 (keep t (from a n)) ≡ only (ltb (first_from t a n) (a + n)) (first_from t a n)
--   first_any   : any t (from a n) ≡ ltb (first_from t a n) (a + n)
--   kept_first, any_first : the same of the numbers below n
--   first_same  : of tests that say the same
--   first_of_two : the first of two lists, one behind the other
-- Follows from the definitions by induction on n.
use Prim.Native.Nat.{ℕ, zero, suc, ◌+◌, ◌<◌}
use native.Mathlib.Nat.{zero-add}
use native.Mathlib.Omega.{arith}
use mathlib.Core.Path.{◌≡◌, refl, sym, ap, ap₂, ◌∙◌}
use mathlib.Core.Bool.{Bool, true, false, cond, ◌&&◌}
use mathlib.Core.List.{List, [], ◌∷◌, ◌++◌}
use lib.Dec.{ltb}
use lib.ListN.{take}
use Rattle.paper.specs.Lists.{from, upto, any, only, keep}
use Rattle.paper.proofs.base.Tests.{by_bool, lt_ltb, le_ltb}
use Rattle.decide_alike.specs.AlikeCoded.{first_from}

add_over : (a n : ℕ) → suc a + n ≡ a + suc n
add_over a n = omega arith

module _ (t : ℕ → Bool) where
  first_kept : (a n : ℕ) → take 1 (keep t (from a n)) ≡ only (ltb (first_from t a n) (a + n)) (first_from t a n)
  unfolding first_from
  first_kept a zero = rw (le_ltb a (a + 0) (omega arith))
  first_kept a (suc n) =
      by_bool (t a)
      (λ e. rw (e, lt_ltb a (a + suc n) (omega arith)))
      (λ e. rw e (first_kept (suc a) n ∙ ap (λ (m : ℕ). only (ltb (first_from t (suc a) n) m) (first_from t (suc a) n)) (add_over a n)))

  first_any : (a n : ℕ) → any t (from a n) ≡ ltb (first_from t a n) (a + n)
  unfolding first_from
  first_any a zero = sym (le_ltb a (a + 0) (omega arith))
  first_any a (suc n) =
      by_bool (t a)
      (λ e. rw (e, lt_ltb a (a + suc n) (omega arith)))
      (λ e. rw e (first_any (suc a) n ∙ ap (ltb (first_from t (suc a) n)) (add_over a n)))

  -- from 0 on
  pub kept_first : (n : ℕ) → take 1 (keep t (upto n)) ≡ only (ltb (first_from t 0 n) n) (first_from t 0 n)
  kept_first n = first_kept 0 n ∙ ap (λ (m : ℕ). only (ltb (first_from t 0 n) m) (first_from t 0 n)) (zero-add n)

  pub any_first : (n : ℕ) → any t (upto n) ≡ ltb (first_from t 0 n) n
  any_first n = first_any 0 n ∙ ap (ltb (first_from t 0 n)) (zero-add n)

module _ {A : Type 0} where
  pub first_of_two : (b : Bool) (x : A) (l m : List A) → take 1 l ≡ only b x → take 1 (l ++ m) ≡ cond b (x ∷ []) (take 1 m)
  first_of_two true x [] m e = let z : ◌≡◌ {A = ℕ} 0 1 = cc in absurd (omega arith)
  first_of_two true x (y ∷ l) m e = e
  first_of_two false x [] m e = refl
  first_of_two false x (y ∷ l) m e = let z : ◌≡◌ {A = ℕ} 0 1 = cc in absurd (omega arith)

  -- what is kept of what was kept
  kept_only : (p : A → Bool) (b : Bool) (x : A) (l : List A) → keep p (only b x ++ l) ≡ only (b && p x) x ++ keep p l
  kept_only p true x l = refl
  kept_only p false x l = refl

  pub keep_keep : (p s : A → Bool) (l : List A) → keep p (keep s l) ≡ keep (λ (x : A). s x && p x) l
  keep_keep p s [] = refl
  keep_keep p s (x ∷ l) = kept_only p (s x) x (keep s l) ∙ ap (λ (k : List A). only (s x && p x) x ++ k) (keep_keep p s l)

-- tests that say the same of these numbers
pub first_same : (t u : ℕ → Bool) (a n : ℕ) → ((i : ℕ) → i < a + n → t i ≡ u i) → first_from t a n ≡ first_from u a n
unfolding first_from
first_same t u a zero h = refl
first_same t u a (suc n) h =
    ap₂ (λ (b : Bool) (m : ℕ). cond b a m) (h a (omega arith)) (first_same t u (suc a) n (λ i l. h i (omega arith)))
