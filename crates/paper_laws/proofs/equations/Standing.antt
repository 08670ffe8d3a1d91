-- Where a field stands after a strike, a put, a trimming: a strike takes the one field away and leaves the others, a put and a
-- trimming leave all. Follows from the definitions by induction on the sides.
use Prim.Native.Nat.{ℕ}
use mathlib.Core.Path.{◌≡◌, refl, sym}
use mathlib.Core.Bool.{Bool, true, false}
use mathlib.Core.List.{[], ◌∷◌, ◌++◌}
use lib.Dec.{eqb}
use Rattle.paper.specs.Lists.{only}
use Rattle.paper.proofs.base.Tests.{by_bool, eqb_true}
use Rattle.paper.proofs.base.Lists.{any_append}
use Rattle.paper.specs.Equation.{chr, fld, Side, is_field, stands_in}
use Rattle.paper.specs.Situation.{Acceptor, Situation, trim, strike_in, put_in, trimmed, strike, put_before}
use Rattle.paper_laws.proofs.equations.Trimming.{Trimming, stop, drop, trimming}

-- a character in front hides no field
stands_character : (g c : ℕ) (b : Bool) (side : Side) → stands_in g (only b (chr c) ++ side) ≡ stands_in g side
stands_character g c true side = refl
stands_character g c false side = refl

pub stands_put : (g c f : ℕ) (side : Side) → stands_in g (put_in c f side) ≡ stands_in g side
stands_put g c f [] = refl
stands_put g c f (chr a ∷ side) = stands_put g c f side
stands_put g c f (fld h ∷ side) =
    rw (stands_character g c (eqb f h) (fld h ∷ put_in c f side), stands_put g c f side)

pub stands_struck : (f : ℕ) (side : Side) → stands_in f (strike_in f side) ≡ false
stands_struck f [] = refl
stands_struck f (chr a ∷ side) = stands_struck f side
stands_struck f (fld h ∷ side) = by_bool (eqb f h) (λ e. rw e (stands_struck f side)) (λ e. rw (e, e) (stands_struck f side))

pub stands_strike : (g f : ℕ) (side : Side) → eqb g f ≡ false → stands_in g (strike_in f side) ≡ stands_in g side
stands_strike g f [] n = refl
stands_strike g f (chr a ∷ side) n = stands_strike g f side n
stands_strike g f (fld h ∷ side) n =
    by_bool (eqb f h)
    (λ e. rw (e, ← (eqb_true f h e), n) (stands_strike g f side n))
    (λ e. rw (e, stands_strike g f side n))

stands_trim : (g : ℕ) {l r l' r' : Side} → Trimming l r l' r' → (stands_in g l' ≡ stands_in g l) × (stands_in g r' ≡ stands_in g r)
stands_trim g stop = (refl, refl)
stands_trim g (drop e t) = stands_trim g t

-- the field stands in the situation
abbrev pub stands : {P : Type 0} → ℕ → Situation P → Bool
stands f s = stands_in f (s.left ++ s.right)

module _ {P : Type 0} (A : Acceptor P) where
  pub stands_trimmed : (f : ℕ) (s : Situation P) → stands f (trimmed A s) ≡ stands f s
  unfolding trimmed
  stands_trimmed f s =
      let l' = (trim s.left s.right).l in
      let r' = (trim s.left s.right).r in
      let (p, q) = stands_trim f (trimming s.left s.right) in
      rw (any_append (is_field f) l' r', any_append (is_field f) s.left s.right, p, q)

  pub struck_stands : (f : ℕ) (s : Situation P) → stands f (strike A f s) ≡ false
  unfolding strike
  struck_stands f s =
      rw (any_append (is_field f) (strike_in f s.left) (strike_in f s.right), stands_struck f s.left, stands_struck f s.right)

  pub strike_stands : (g f : ℕ) (s : Situation P) → eqb g f ≡ false → stands g (strike A f s) ≡ stands g s
  unfolding strike
  strike_stands g f s n =
      rw (any_append (is_field g) (strike_in f s.left) (strike_in f s.right), stands_strike g f s.left n)
      (rw (stands_strike g f s.right n) (sym (any_append (is_field g) s.left s.right)))

  pub put_stands : (g c f : ℕ) (s : Situation P) → stands g (put_before A c f s) ≡ stands g s
  unfolding put_before
  put_stands g c f s =
      rw (any_append (is_field g) (put_in c f s.left) (put_in c f s.right), stands_put g c f s.left, stands_put g c f s.right)
      (sym (any_append (is_field g) s.left s.right))
