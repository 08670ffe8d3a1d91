-- Tails of sides, and sides whose fields stand once: what demand 3 of document 01 needs of tokens, without sets.
-- Follows from the definitions by induction on sides.
use Prim.Native.Nat.{ℕ, ◌≤◌, ◌<◌}
use native.Mathlib.Omega.{arith}
use mathlib.Core.Path.{◌≡◌, refl, ◌∙◌}
use mathlib.Core.Logic.{⊎_elim}
use mathlib.Core.Bool.{true, false, not}
use mathlib.Core.List.{[], ◌∷◌, ◌++◌}
use lib.Dec.{eqb}
use lib.ListN.{length}
use Rattle.paper.proofs.base.Tests.{true_false, and_left, and_right, both_true, not_is_true, false_not, or_is_true, left_true, right_true, or_left_false, or_right_false, eqb_true, eqb_same}
use Rattle.paper.proofs.base.Lists.{any_append}
use Rattle.paper.specs.Equation.{Token, chr, fld, Side, is_field, stands_in}
use Rattle.paper.specs.Plain.{each_once, plain}

pub stands_front : (f : ℕ) (t : Side) → stands_in f (fld f ∷ t) ≡ true
stands_front f t = left_true (eqb f f) (stands_in f t) (eqb_same f)

pub stands_left : (f : ℕ) (l r : Side) → stands_in f l ≡ true → stands_in f (l ++ r) ≡ true
stands_left f l r e = any_append (is_field f) l r ∙ left_true (stands_in f l) (stands_in f r) e

pub stands_right : (f : ℕ) (l r : Side) → stands_in f r ≡ true → stands_in f (l ++ r) ≡ true
stands_right f l r e = any_append (is_field f) l r ∙ right_true (stands_in f l) (stands_in f r) e

-- a tail of a side
pub data Tail : Side → Side → Type 0 where
  whole : {side : Side} → Tail side side
  behind : {t : Side} {x : Token} {side : Side} → Tail t side → Tail t (x ∷ side)

pub tail_rest : {x : Token} {t side : Side} → Tail (x ∷ t) side → Tail t side
tail_rest whole = behind whole
tail_rest (behind u) = behind (tail_rest u)

pub tail_length : {t side : Side} → Tail t side → length t ≤ length side
tail_length whole = omega arith
tail_length (behind u) = omega (arith, tail_length u)

-- what stands in a tail stands in the side
pub tail_stands : (f : ℕ) {t side : Side} → Tail t side → stands_in f t ≡ true → stands_in f side ≡ true
tail_stands f whole e = e
tail_stands f (behind {x = x} {side = side} u) e = right_true (is_field f x) (stands_in f side) (tail_stands f u e)

pub once_rest : (x : Token) (side : Side) → each_once (x ∷ side) ≡ true → each_once side ≡ true
once_rest (chr a) side e = e
once_rest (fld f) side e = and_right (not (stands_in f side)) (each_once side) e

pub tail_once : {t side : Side} → Tail t side → each_once side ≡ true → each_once t ≡ true
tail_once whole e = e
tail_once (behind {x = x} {side = side} u) e = tail_once u (once_rest x side e)

-- where every field stands once, the one in front stands no more behind
pub front_once : (f : ℕ) (side : Side) → each_once (fld f ∷ side) ≡ true → stands_in f side ≡ false
front_once f side e = not_is_true (and_left (not (stands_in f side)) (each_once side) e)

-- and so in two sides together: each side by itself, and no field in both
pub once_left : (l r : Side) → each_once (l ++ r) ≡ true → each_once l ≡ true
once_left [] r e = refl
once_left (chr a ∷ l) r e = once_left l r e
once_left (fld f ∷ l) r e =
    both_true
    (false_not (or_left_false (stands_in f l) (stands_in f r) (rw any_append at (front_once f (l ++ r) e))))
    (once_left l r (once_rest (fld f) (l ++ r) e))

pub once_right : (l r : Side) → each_once (l ++ r) ≡ true → each_once r ≡ true
once_right [] r e = e
once_right (x ∷ l) r e = once_right l r (once_rest x (l ++ r) e)

pub once_apart : (l r : Side) (f : ℕ) → each_once (l ++ r) ≡ true → stands_in f l ≡ true → stands_in f r ≡ true → ⊥
once_apart [] r f e p q = true_false p refl
once_apart (chr a ∷ l) r f e p q = once_apart l r f e p q
once_apart (fld g ∷ l) r f e p q =
    ⊎_elim
    (λ h.
    let k : stands_in g (l ++ r) ≡ false = front_once g (l ++ r) e in
    true_false q (rw (eqb_true f g h) (or_right_false (stands_in g l) (stands_in g r) (rw any_append at k))))
    (λ h. once_apart l r f (once_rest (fld g) (l ++ r) e) h q)
    (or_is_true (eqb f g) (stands_in f l) p)

-- two sides whose fields, all below a number, stand once in the two together
pub record Plain (fields : ℕ) (l r : Side) : Type 0 where
  pub left_once : each_once l ≡ true
  pub right_once : each_once r ≡ true
  pub apart : (f : ℕ) → stands_in f l ≡ true → stands_in f r ≡ true → ⊥
  pub left_below : (f : ℕ) → stands_in f l ≡ true → f < fields
  pub right_below : (f : ℕ) → stands_in f r ≡ true → f < fields

pub swap_plain : {fields : ℕ} {l r : Side} → Plain fields l r → Plain fields r l
swap_plain h =
    record {
      left_once = h.right_once;
      right_once = h.left_once;
      apart = λ f p q. h.apart f q p;
      left_below = h.right_below;
      right_below = h.left_below;
    }

pub plain_sides :
    (fields : ℕ) (l r : Side)
    → plain l r ≡ true → ((f : ℕ) → stands_in f (l ++ r) ≡ true → f < fields) → Plain fields l r
plain_sides fields l r e b =
    record {
      left_once = once_left l r e;
      right_once = once_right l r e;
      apart = λ f p q. once_apart l r f e p q;
      left_below = λ f p. b f (stands_left f l r p);
      right_below = λ f p. b f (stands_right f l r p);
    }
