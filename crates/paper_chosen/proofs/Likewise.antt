-- The texts that a way spells are the same for any two acceptors: a move looks at the sides alone to say which field gets its character,
-- and what it does to the sides doesn't look at the sets.
--   same_texts : texts_of A l r e f ≡ texts_of B l r e f
-- Follows from the definitions of the moves, by induction on the way.
use Prim.Native.Nat.{ℕ}
use mathlib.Core.Path.{◌≡◌, refl, ap, subst}
use mathlib.Core.List.{List, [], ◌∷◌, ◌++◌, reverse}
use Rattle.paper.specs.Search.{Entry}
use Rattle.paper.specs.Equation.{Side}
use Rattle.paper.specs.Situation.{Acceptor, Situation, strike_in, put_in, front_field, front_fields, Move, strike_left, strike_right, put}
use Rattle.paper.specs.Situation.{trimmed, strike, put_before, put_before_all, strike_all, moved, question}
use Rattle.paper.specs.Way.{given, text_along, texts_of}

-- two situations with the same sides, whatever their sets are
record Likewise {P : Type 0} (s t : Situation P) : Type 0 where
  left : s.left ≡ t.left
  right : s.right ≡ t.right

module _ {P : Type 0} (A B : Acceptor P) where
  strike_likewise : (f : ℕ) (s t : Situation P) → Likewise s t → Likewise (strike A f s) (strike B f t)
  unfolding strike
  strike_likewise f s t h = record { left = ap (strike_in f) h.left; right = ap (strike_in f) h.right }

  put_likewise : (c f : ℕ) (s t : Situation P) → Likewise s t → Likewise (put_before A c f s) (put_before B c f t)
  unfolding put_before
  put_likewise c f s t h = record { left = ap (put_in c f) h.left; right = ap (put_in c f) h.right }

  strikes_likewise :
      (fs gs : List ℕ) (s t : Situation P)
      → fs ≡ gs → Likewise s t → Likewise (strike_all A fs s) (strike_all B gs t)
  strikes_likewise fs gs s t e h = subst (λ (x : List ℕ). Likewise (strike_all A fs s) (strike_all B x t)) e (of fs s t h)
    where
      of : (fs : List ℕ) (s t : Situation P) → Likewise s t → Likewise (strike_all A fs s) (strike_all B fs t)
      of [] s t h = h
      of (f ∷ fs) s t h = of fs (strike A f s) (strike B f t) (strike_likewise f s t h)

  puts_likewise :
      (c : ℕ) (fs gs : List ℕ) (s t : Situation P)
      → fs ≡ gs → Likewise s t → Likewise (put_before_all A c fs s) (put_before_all B c gs t)
  puts_likewise c fs gs s t e h = subst (λ (x : List ℕ). Likewise (put_before_all A c fs s) (put_before_all B c x t)) e (of fs s t h)
    where
      of : (fs : List ℕ) (s t : Situation P) → Likewise s t → Likewise (put_before_all A c fs s) (put_before_all B c fs t)
      of [] s t h = h
      of (f ∷ fs) s t h = of fs (put_before A c f s) (put_before B c f t) (put_likewise c f s t h)

  moved_likewise : (m : Move) (s t : Situation P) → Likewise s t → Likewise (moved A s m) (moved B t m)
  moved_likewise strike_left s t h = strikes_likewise (front_field s.left) (front_field t.left) s t (ap front_field h.left) h
  moved_likewise strike_right s t h = strikes_likewise (front_field s.right) (front_field t.right) s t (ap front_field h.right) h
  moved_likewise (put c) s t h =
      puts_likewise c (front_fields s.left s.right) (front_fields t.left t.right) s t (rw (h.left, h.right)) h

  trimmed_likewise : (s t : Situation P) → Likewise s t → Likewise (trimmed A s) (trimmed B t)
  unfolding trimmed
  trimmed_likewise s t h = record { left = rw (h.left, h.right); right = rw (h.left, h.right) }

  given_likewise : (f : ℕ) (m : Move) (s t : Situation P) → Likewise s t → given A f s m ≡ given B f t m
  given_likewise f strike_left s t h = refl
  given_likewise f strike_right s t h = refl
  given_likewise f (put c) s t h = rw (h.left, h.right)

  text_likewise : (f : ℕ) (ms : List Move) (s t : Situation P) → Likewise s t → text_along A f s ms ≡ text_along B f t ms
  text_likewise f [] s t h = refl
  text_likewise f (m ∷ ms) s t h =
      rw (given_likewise f m s t h)
      (ap (λ (w : List ℕ). given B f t m ++ w)
      (text_likewise f ms (trimmed A (moved A s m)) (trimmed B (moved B t m))
      (trimmed_likewise (moved A s m) (moved B t m) (moved_likewise m s t h))))

  question_likewise : (l r : Side) → Likewise (question A l r) (question B l r)
  unfolding question trimmed
  question_likewise l r = record { left = refl; right = refl }

  pub same_texts : (l r : Side) (e : Entry (Situation P) Move) (f : ℕ) → texts_of A l r e f ≡ texts_of B l r e f
  unfolding texts_of
  same_texts l r e f = text_likewise f (reverse e.way) (question A l r) (question B l r) (question_likewise l r)
