-- Patterns for fields that stand in neither side: the first of them, one field after the other, and that they are the paper's.
--   first_here, first_behind, strays_from : the fields from f on
--   first_is   : the first of them is one of the fields, and has a pattern
--   some_stray : is_some (first_of strays) ≡ ltb 0 (length strays)
--   strays_are : strays_coded bodies left right ≡ strays_of held (l ++ r), where left and right are the good sides l and r by their codes
-- Follows from the definition of `keep`, from how often the fields stand (`HowOften`) and from the sides being read back (`SidesBack`).
use Prim.Native.Nat.{ℕ, suc, ◌+◌, ◌≤◌, ◌<◌}
use native.Mathlib.Numerals.{add-one}
use native.Mathlib.Omega.{arith}
use mathlib.Core.Path.{◌≡◌, refl, sym, ap, ap₂, ◌∙◌, subst}
use mathlib.Core.Bool.{Bool, true, false, not, ◌&&◌}
use mathlib.Core.List.{List, [], ◌∷◌, ◌++◌, Memᴰ}
use lib.Dec.{ltb, eqb}
use lib.ListN.{length, get_or}
use Rattle.std.proofs.Common.{Some, is_some}
use Rattle.paper.specs.Lists.{from, upto, keep}
use Rattle.paper.specs.Numbers.{most_characters, fields}
use Rattle.paper.specs.Pattern.{Held, some_text}
use Rattle.paper.specs.Equation.{Side, stands_in}
use Rattle.paper.specs.Sheet.{has_pattern, is_stray, strays_of}
use Rattle.paper.proofs.base.Tests.{and_left, lt_ltb, ltb_true}
use Rattle.paper.proofs.base.Lists.{mem_keep, mem_upto}
use Rattle.paper.proofs.base.Listed.{keep_same}
use Rattle.paper_laws.proofs.sheets.Asked.{GoodSide}
use Rattle.base_codes.specs.Inner.{field_code, side_code, tokens, padded}
use Rattle.base_question.specs.Bodies.{nowhere}
use Rattle.base_question.specs.Standings.{times, count}
use Rattle.base_question.specs.StraysCoded.{stray_coded, strays_coded, first_of}
use Rattle.base_question.specs.declared.Body.{Body}
use Rattle.base_question.proofs.HowOften.{codes_times, stands_times}
use Rattle.base_question.proofs.SidesBack.{sides_back, both_have_sets}

pub not_twice : (b : Bool) → b ≡ not (not b)
not_twice true = refl
not_twice false = refl

-- the fields from f on
module _ (p : ℕ → Bool) (f n : ℕ) where
  pub first_here : p f ≡ true → first_of (keep p (from f (suc n))) ≡ Some f
  first_here e = rw e

  pub first_behind : p f ≡ false → keep p (from f (suc n)) ≡ keep p (from (f + 1) n)
  first_behind e = rw (e, add-one f)

module _ (bodies : List Body) (left right : List ℕ) where
  pub strays_from : (n : ℕ) → n + 0 ≡ fields → strays_coded bodies left right ≡ keep (stray_coded bodies left right) (from 0 n)
  unfolding strays_coded
  strays_from n e = let same : n ≡ fields = omega arith in rw same

  -- the first of them is one of the fields, and has a pattern
  pub first_is : (f : ℕ) (fs : List ℕ) → strays_coded bodies left right ≡ f ∷ fs → (f < fields) × (0 < (get_or bodies f nowhere).length)
  unfolding strays_coded
  first_is f fs e =
      let (d, t) = mem_keep (stray_coded bodies left right) (upto fields) (subst (λ (l : List ℕ). Memᴰ f l) (sym e) (Memᴰ.head refl)) in
      let n = (get_or bodies f nowhere).length in
      (mem_upto fields d, ltb_true 0 n (and_left (ltb 0 n) (eqb (count (field_code + f) (tokens left ++ tokens right)) 0) t))

  -- there is one where there is a first of them
  pub some_stray : is_some (first_of (strays_coded bodies left right)) ≡ ltb 0 (length (strays_coded bodies left right))
  some_stray = by_strays (strays_coded bodies left right)
    where
      by_strays : (l : List ℕ) → is_some (first_of l) ≡ ltb 0 (length l)
      by_strays [] = refl
      by_strays (f ∷ fs) = sym (lt_ltb 0 (suc (length fs)) (omega arith))

-- of sides and of what the fields may hold, as they were read
module _ (n : ℕ) (most : n ≤ most_characters) (l r : Side) (g : GoodSide n l) (h : GoodSide n r) (bodies : List Body) (held : List Held)
    (patterned : (f : ℕ) → f < fields → ltb 0 (get_or bodies f nowhere).length ≡ has_pattern (get_or held f some_text)) where
  abbrev left : List ℕ
  left = padded (side_code l)

  abbrev right : List ℕ
  right = padded (side_code r)

  none_stands : (f : ℕ) → eqb (count (field_code + f) (tokens left ++ tokens right)) 0 ≡ not (stands_in f (l ++ r))
  none_stands f =
      ap (λ (c : List ℕ). eqb (count (field_code + f) c) 0) (sides_back n most l r g h)
      ∙ ap (λ (k : ℕ). eqb k 0) (codes_times f (l ++ r) (both_have_sets n most l r g h))
      ∙ not_twice (eqb (times f (l ++ r)) 0)
      ∙ ap not (stands_times f (l ++ r))

  pub strays_are : strays_coded bodies left right ≡ strays_of held (l ++ r)
  unfolding strays_coded strays_of
  strays_are =
      keep_same (stray_coded bodies left right) (is_stray held (l ++ r)) (upto fields)
      (λ f d. ap₂ ◌&&◌ (patterned f (mem_upto fields d)) (none_stands f))
