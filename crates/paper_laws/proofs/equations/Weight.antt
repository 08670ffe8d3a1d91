-- The measure by which the search on a question with a solution comes to an end: for every field standing in a side, one and the
-- length of its text. A strike takes the field's ones away, a put takes one from the field's texts, trimming keeps all.
-- Follows from the definitions by induction on the sides.
use Prim.Native.Nat.{ℕ, suc, ◌+◌, ◌≤◌, ◌<◌}
use native.Mathlib.Omega.{arith}
use mathlib.Core.Path.{◌≡◌, refl, sym, ◌∙◌}
use mathlib.Core.Logic.{⊎_elim}
use mathlib.Core.Bool.{Bool, true, false, cond}
use mathlib.Core.List.{[], ◌∷◌, ◌++◌}
use lib.Dec.{eqb}
use lib.ListN.{length}
use Rattle.paper.specs.Lists.{only}
use Rattle.paper.proofs.base.Tests.{by_bool, or_is_true}
use Rattle.paper.proofs.base.Lists.{any_append}
use Rattle.paper.specs.Equation.{chr, fld, Side, Texts, is_field, stands_in}
use Rattle.paper.specs.Situation.{Acceptor, Situation, strike_in, put_in, trimmed, strike, put_before}
use Rattle.paper_laws.proofs.equations.Trimming.{Trimming, stop, drop, trimming}
use Rattle.paper_laws.proofs.equations.Standing.{stands}
use Rattle.paper_laws.proofs.equations.Labels.{Put}

abbrev pub weight : Texts → Side → ℕ
weight texts [] = 0
weight texts (chr a ∷ side) = weight texts side
weight texts (fld f ∷ side) = suc (length (texts f)) + weight texts side

-- one if the field stands in the side
abbrev pub standing : ℕ → Side → ℕ
standing f side = cond (stands_in f side) 1 0

weight_strike : (texts : Texts) (f : ℕ) (side : Side) → weight texts (strike_in f side) + standing f side ≤ weight texts side
weight_strike texts f [] = omega arith
weight_strike texts f (chr a ∷ side) = weight_strike texts f side
weight_strike texts f (fld h ∷ side) =
    let i = weight_strike texts f side in
    by_bool (eqb f h) (λ e. rw e (omega arith)) (λ e. rw e (omega arith))

weight_character : (texts : Texts) (c : ℕ) (b : Bool) (side : Side) → weight texts (only b (chr c) ++ side) ≡ weight texts side
weight_character texts c true side = refl
weight_character texts c false side = refl

weight_put : (before after : Texts) (c f : ℕ) (side : Side) → Put c f before after
    → weight after (put_in c f side) + standing f side ≤ weight before side
weight_put before after c f [] p = omega arith
weight_put before after c f (chr a ∷ side) p = weight_put before after c f side p
weight_put before after c f (fld h ∷ side) p =
    let i = weight_put before after c f side p in
    rw (weight_character after c (eqb f h) (fld h ∷ put_in c f side), p h)
    (by_bool (eqb f h) (λ e. rw e (omega arith)) (λ e. rw e (omega arith)))

weight_trim : (texts : Texts) {l r l' r' : Side} → Trimming l r l' r'
    → (weight texts l' ≡ weight texts l) × (weight texts r' ≡ weight texts r)
weight_trim texts stop = (refl, refl)
weight_trim texts (drop e t) = weight_trim texts t

-- of a situation
abbrev pub weight_of : {P : Type 0} → Texts → Situation P → ℕ
weight_of texts s = weight texts s.left + weight texts s.right

-- it stands in one of the sides
standing_both : (f : ℕ) (l r : Side) → stands_in f (l ++ r) ≡ true → 1 ≤ standing f l + standing f r
standing_both f l r e =
    ⊎_elim (λ (h : stands_in f l ≡ true). rw h (omega arith)) (λ (h : stands_in f r ≡ true). rw h (omega arith))
    (or_is_true (stands_in f l) (stands_in f r) (sym (any_append (is_field f) l r) ∙ e))

module _ {P : Type 0} (A : Acceptor P) where
  pub weight_trimmed : (texts : Texts) (s : Situation P) → weight_of texts (trimmed A s) ≡ weight_of texts s
  unfolding trimmed
  weight_trimmed texts s = let (p, q) = weight_trim texts (trimming s.left s.right) in rw (p, q)

  pub weight_struck : (texts : Texts) (f : ℕ) (s : Situation P) → stands f s ≡ true → weight_of texts (strike A f s) < weight_of texts s
  unfolding strike
  weight_struck texts f s e =
      omega (arith, weight_strike texts f s.left, weight_strike texts f s.right, standing_both f s.left s.right e)

  pub weight_put_le : (before after : Texts) (c f : ℕ) (s : Situation P) → Put c f before after
      → weight_of after (put_before A c f s) ≤ weight_of before s
  unfolding put_before
  weight_put_le before after c f s p =
      omega (arith, weight_put before after c f s.left p, weight_put before after c f s.right p)

  pub weight_put_lt : (before after : Texts) (c f : ℕ) (s : Situation P) → Put c f before after → stands f s ≡ true
      → weight_of after (put_before A c f s) < weight_of before s
  unfolding put_before
  weight_put_lt before after c f s p e =
      omega (arith, weight_put before after c f s.left p, weight_put before after c f s.right p, standing_both f s.left s.right e)
