-- Trailing spaces, where x is the space: what is dropped can be put behind, and what is put behind is dropped.
--   padded_same : l ++ replicate n x ≡ m ++ replicate k x → Same x l m
--   same_padded : Same x l m → with some spaces behind each they are one list of characters
-- Follows by induction on the label.
use Prim.Native.Nat.{ℕ, zero, suc, ◌+◌}
use native.Mathlib.Nat.{zero-add, suc-add, add_comm}
use mathlib.Core.Path.{◌≡◌, refl, sym, ap, ◌∙◌}
use mathlib.Core.List.{List, [], ◌∷◌, ◌++◌, append_assoc}
use lib.Dec.{eqb}
use lib.ListN.{replicate}
use Rattle.paper.proofs.base.Tests.{by_bool, eqb_true, eqb_same}
use Rattle.paper.proofs.base.Lists.{cons_eq}
use Rattle.paper.specs.Equation.{before_dropped, without_trailing, Same}

module _ (x : ℕ) where
  -- what is put behind is dropped
  spaces_dropped : (n : ℕ) → without_trailing x (replicate n x) ≡ []
  spaces_dropped zero = refl
  spaces_dropped (suc n) = rw (spaces_dropped n, eqb_same x)

  dropped_behind : (w : List ℕ) (n : ℕ) → without_trailing x (w ++ replicate n x) ≡ without_trailing x w
  dropped_behind [] n = spaces_dropped n
  dropped_behind (c ∷ w) n = ap (before_dropped x c) (dropped_behind w n)

  pub padded_same : (l m : List ℕ) (n k : ℕ) → l ++ replicate n x ≡ m ++ replicate k x → Same x l m
  padded_same l m n k e = sym (dropped_behind l n) ∙ ap (without_trailing x) e ∙ dropped_behind m k

  -- what is dropped can be put behind
  one_back : (c n : ℕ) (d w : List ℕ) → w ≡ d ++ replicate n x → (k : ℕ) × (c ∷ w ≡ before_dropped x c d ++ replicate k x)
  one_back c n [] w e =
      by_bool (eqb c x)
      (λ h. (suc n, rw (h, eqb_true c x h) (cons_eq refl e)))
      (λ h. (n, rw h (cons_eq refl e)))
  one_back c n (b ∷ d) w e = (n, cons_eq refl e)

  put_back : (w : List ℕ) → (n : ℕ) × (w ≡ without_trailing x w ++ replicate n x)
  put_back [] = (0, refl)
  put_back (c ∷ w) = let (n, e) = put_back w in one_back c n (without_trailing x w) w e

  spaces_append : (a b : ℕ) → replicate a x ++ replicate b x ≡ replicate (a + b) x
  spaces_append zero b = ap (λ (n : ℕ). replicate n x) (sym (zero-add b))
  spaces_append (suc a) b = cons_eq refl (spaces_append a b) ∙ ap (λ (n : ℕ). replicate n x) (sym (suc-add a b))

  spaces_swap : (a b : ℕ) → replicate a x ++ replicate b x ≡ replicate b x ++ replicate a x
  spaces_swap a b = spaces_append a b ∙ ap (λ (n : ℕ). replicate n x) (add_comm a b) ∙ sym (spaces_append b a)

  pub same_padded : (l m : List ℕ) → Same x l m → (n : ℕ) × (k : ℕ) × (l ++ replicate n x ≡ m ++ replicate k x)
  same_padded l m e =
      let (a, p) = put_back l in
      let (b, q) = put_back m in
      let d = without_trailing x m in
      let left : l ≡ d ++ replicate a x = p ∙ ap (λ (t : List ℕ). t ++ replicate a x) e in (
        b,
        a,
        ap (λ (t : List ℕ). t ++ replicate b x) left ∙ append_assoc d (replicate a x) (replicate b x)
            ∙ ap (λ (t : List ℕ). d ++ t) (spaces_swap a b)
            ∙ sym (append_assoc d (replicate b x) (replicate a x)) ∙ ap (λ (t : List ℕ). t ++ replicate a x) (sym q),
      )
