-- `stands_twice` tells of a question of the paper whether it is plain.
--   twice_told : twice_coded (padded (side_code left)) (padded (side_code right)) ≡ not (plain left right), of good sides
-- A field of which two tokens stand in a side stands behind one of them, and the other way round: by induction on the side.
use Prim.Native.Nat.{ℕ, suc, ◌+◌, ◌<◌, ◌≤◌}
use native.Mathlib.Omega.{arith}
use mathlib.Core.Path.{◌≡◌, refl, sym, ap, ap₂, ◌∙◌, subst}
use mathlib.Core.Logic.{⊎_elim}
use mathlib.Core.Bool.{Bool, true, false, not, ◌&&◌}
use mathlib.Core.List.Memᴰ
use mathlib.Core.List.{List, [], ◌∷◌, ◌++◌, map, Memᴰ}
use lib.Dec.{leb, ltb, eqb}
use lib.ListN.{length-append}
use Rattle.paper.specs.Lists.{upto, any, only, keep}
use Rattle.paper.specs.Numbers.{most_characters, set_fields}
use Rattle.paper.specs.Equation.{Token, chr, fld, Side, is_field, stands_in}
use Rattle.paper.specs.Plain.{each_once, plain}
use Rattle.paper.proofs.base.Tests.{by_bool, true_false, same_tests, not_is_true, false_not, true_not, left_false, right_false, leb_true, leb_false, eqb_true, eqb_false, eqb_same, neq_eqb, ltb_true, lt_ltb}
use Rattle.paper.proofs.base.Lists.{any_true, mem_any, mem_map, map_mem, mem_upto, upto_mem, map_append}
use Rattle.paper.proofs.base.Listed.{get_or_map_upto}
use Rattle.paper_laws.proofs.sheets.Asked.{GoodSide}
use Rattle.paper_laws.proofs.sheets.Hidden.{HasSet, in_range_has_set}
use Rattle.base_codes.specs.Inner.{field_code, token_code, side_code, tokens, padded}
use Rattle.base_question.specs.Standings.{times, count, standing_times}
use Rattle.base_question.proofs.HowOften.{standings_are, stands_times}
use Rattle.base_question.proofs.SidesBack.{side_back}
use Rattle.plain_count.specs.StandingsCoded.{twice_coded}

-- how often a field stands, one more in front
times_same : (f g : ℕ) (side : Side) → eqb f g ≡ true → times f (fld g ∷ side) ≡ suc (times f side)
times_same f g side e = rw e

times_front : (f g : ℕ) (side : Side) → times f side ≤ times f (fld g ∷ side)
times_front f g side = omega (arith, length-append (only (eqb f g) (fld g)) (keep (is_field f) side))

stands_some : (f : ℕ) (side : Side) → 0 < times f side → stands_in f side ≡ true
stands_some f side h = sym (stands_times f side) ∙ false_not (neq_eqb (times f side) 0 (λ (z : times f side ≡ 0). omega arith))

some_stands : (f : ℕ) (side : Side) → stands_in f side ≡ true → 0 < times f side
some_stands f side e =
    let other = eqb_false (times f side) 0 (not_is_true (stands_times f side ∙ e)) in
    by_bool (leb (times f side) 0) (λ z. absurd (other (let k = leb_true (times f side) 0 z in omega arith))) (λ z. leb_false (times f side) 0 z)

twice_not_once : (f : ℕ) (side : Side) → 1 < times f side → each_once side ≡ false
twice_not_once f [] h = absurd (omega arith)
twice_not_once f (chr c ∷ side) h = twice_not_once f side h
twice_not_once f (fld g ∷ side) h =
    by_bool (eqb f g)
    (λ e.
    let behind : stands_in f side ≡ true = stands_some f side (omega (arith, times_same f g side e)) in
    left_false (not (stands_in g side)) (each_once side) (true_not (subst (λ (x : ℕ). stands_in x side ≡ true) (eqb_true f g e) behind)))
    (λ e. right_false (not (stands_in g side)) (each_once side) (twice_not_once f side (rw e at h)))

not_once_twice : (side : Side) → ((t : Token) → Memᴰ t side → HasSet t) → each_once side ≡ false
    → (f : ℕ) × (f < set_fields) × (1 < times f side)
not_once_twice [] h e = absurd (true_false refl e)
not_once_twice (chr c ∷ side) h e = not_once_twice side (λ t d. h t (Memᴰ.tail d)) e
not_once_twice (fld g ∷ side) h e =
    by_bool (stands_in g side)
    (λ s. (g, h (fld g) (Memᴰ.head refl), omega (arith, times_same g g side (eqb_same g), some_stands g side s)))
    (λ s.
    let (f, k, l) = not_once_twice side (λ t d. h t (Memᴰ.tail d)) (ap (λ (b : Bool). not b && each_once side) (sym s) ∙ e) in
    (f, k, omega (arith, times_front f g side)))

module _ (n : ℕ) (most : n ≤ most_characters) (l r : Side) (good_left : GoodSide n l) (good_right : GoodSide n r) where
  have_sets : (t : Token) → Memᴰ t (l ++ r) → HasSet t
  have_sets t d =
      ⊎_elim (λ i. in_range_has_set n most t (good_left.tokens t i)) (λ i. in_range_has_set n most t (good_right.tokens t i)) (Memᴰ.append_cases l d)

  abbrev left : List ℕ
  left = padded (side_code l)

  abbrev right : List ℕ
  right = padded (side_code r)

  codes_are : tokens left ++ tokens right ≡ side_code (l ++ r)
  codes_are = ap₂ ◌++◌ (side_back n most l good_left) (side_back n most r good_right) ∙ sym (map_append token_code l r)

  -- how often a field stands, by the codes
  abbrev counted : ℕ → ℕ
  counted f = count (field_code + f) (tokens left ++ tokens right)

  counted_is : (f : ℕ) → f < set_fields → counted f ≡ times f (l ++ r)
  unfolding standing_times
  counted_is f k = sym (get_or_map_upto counted 0 set_fields f k) ∙ standings_are (l ++ r) have_sets left right codes_are f k

  pub twice_told : twice_coded left right ≡ not (plain l r)
  unfolding twice_coded standing_times
  twice_told =
      same_tests (any (λ (m : ℕ). ltb 1 m) (map counted (upto set_fields))) (not (plain l r))
      (λ e.
      let (m, d, t) = any_true (λ (m : ℕ). ltb 1 m) (map counted (upto set_fields)) e in
      let (f, i, is) = mem_map counted (upto set_fields) d in
      false_not (twice_not_once f (l ++ r) (omega (arith, ltb_true 1 m t, is, counted_is f (mem_upto set_fields i)))))
      (λ e.
      let (f, k, more) = not_once_twice (l ++ r) have_sets (not_is_true e) in
      mem_any (λ (m : ℕ). ltb 1 m) (map counted (upto set_fields)) (map_mem counted (upto_mem set_fields k))
      (lt_ltb 1 (counted f) (omega (arith, counted_is f k))))
