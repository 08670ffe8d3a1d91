-- A range's characters: whether one of them is this, whether all are.
--   any_below, any_at_most           : any (this_one a) (from lo (suc hi - lo))
--   all_none, all_more, all_alone    : all (this_one a) (from lo (suc hi - lo))
--   all_but_all, all_but_any         : of all but one, by one alone
-- Follows from what `from` counts.
use Prim.Native.Nat.{ℕ, suc, ◌-◌, ◌≤◌, ◌<◌}
use native.Mathlib.Omega.{arith}
use mathlib.Core.Path.{◌≡◌, refl, sym, ap, ◌∙◌}
use mathlib.Core.Bool.{Bool, true, false, not, ◌&&◌, ◌||◌}
use mathlib.Core.List.{List, [], ◌∷◌}
use lib.Dec.{leb, eqb}
use Rattle.paper.specs.Lists.{from, any, all}
use Rattle.paper.proofs.base.Tests.{by_bool, leb_true, leb_false, eqb_true, eqb_same, neq_eqb}
use Rattle.paper.proofs.base.Lists.{from_mem, mem_from, mem_any, none_any}
use Rattle.paper_decide.specs.Letters.{this_one, all_but}

module _ (a lo hi : ℕ) where
  abbrev its : List ℕ
  its = from lo (suc hi - lo)

  pub any_below : a < lo → any (this_one a) its ≡ false
  any_below h = none_any (this_one a) its (λ c d. neq_eqb a c (λ (e : a ≡ c). let m = mem_from lo (suc hi - lo) d in omega (arith, m.0)))

  pub any_at_most : lo ≤ a → any (this_one a) its ≡ leb a hi
  any_at_most h =
      by_bool (leb a hi)
      (λ (e : leb a hi ≡ true).
      let k = leb_true a hi e in
      mem_any (this_one a) its (from_mem lo (suc hi - lo) h (omega arith)) (eqb_same a) ∙ sym e)
      (λ (e : leb a hi ≡ false).
      let k = leb_false a hi e in
      none_any (this_one a) its (λ c d. neq_eqb a c (λ (w : a ≡ c). let m = mem_from lo (suc hi - lo) d in omega (arith, m.1))) ∙ sym e)

  pub all_none : hi < lo → all (this_one a) its ≡ true
  all_none h = let e : suc hi - lo ≡ 0 = omega arith in rw e

  pub all_more : lo < hi → all (this_one a) its ≡ false
  all_more h =
      let e : suc hi - lo ≡ suc (suc (hi - suc lo)) = omega arith in
      rw e
      (by_bool (eqb a lo)
      (λ (z : eqb a lo ≡ true).
      let other = neq_eqb a (suc lo) (λ (w : a ≡ suc lo). let same = eqb_true a lo z in omega arith) in
      rw (z, other))
      (λ (z : eqb a lo ≡ false). rw z))

  pub all_alone : lo ≡ hi → all (this_one a) its ≡ eqb a lo
  all_alone h = let e : suc hi - lo ≡ 1 = omega arith in rw e (and_true (eqb a lo))
    where
      and_true : (b : Bool) → (b && true) ≡ b
      and_true true = refl
      and_true false = refl

not_or : (x y : Bool) → not (x || y) ≡ (not x && not y)
not_or true y = refl
not_or false y = refl

not_and : (x y : Bool) → not (x && y) ≡ (not x || not y)
not_and true y = refl
not_and false y = refl

module _ (space : ℕ) where
  pub all_but_all : (l : List ℕ) → all (all_but space) l ≡ not (any (this_one space) l)
  all_but_all [] = refl
  all_but_all (c ∷ l) = ap (λ (b : Bool). not (eqb space c) && b) (all_but_all l) ∙ sym (not_or (eqb space c) (any (this_one space) l))

  pub all_but_any : (l : List ℕ) → any (all_but space) l ≡ not (all (this_one space) l)
  all_but_any [] = refl
  all_but_any (c ∷ l) = ap (λ (b : Bool). not (eqb space c) || b) (all_but_any l) ∙ sym (not_and (eqb space c) (all (this_one space) l))
