-- How often the fields of the paper's sides stand, by the codes of their tokens.
--   standings_are : get_or (standings left right) f 0 ≡ times f side, where the tokens of left and right are the codes of the side
--   codes_times   : the tokens of its codes that are the field's code are as many as those that are the field
--   stands_times  : not (eqb (times f side) 0) ≡ stands_in f side
-- The tokens are characters and fields that have place sets. Follows by induction on the side: tokens have different codes.
use Prim.Native.Nat.{ℕ, suc, ◌+◌, ◌<◌}
use native.Mathlib.Omega.{arith}
use mathlib.Core.Path.{◌≡◌, refl, sym, ap, ◌∙◌}
use mathlib.Core.Bool.{Bool, true, false, not, ◌||◌}
use mathlib.Core.List.{List, [], ◌∷◌, ◌++◌, Memᴰ}
use lib.Dec.{eqb}
use lib.ListN.{length, get_or}
use Rattle.paper.specs.Lists.{only, keep}
use Rattle.paper.specs.Numbers.{set_fields}
use Rattle.paper.specs.Equation.{Token, chr, fld, Side, is_field, stands_in}
use Rattle.paper.proofs.base.Tests.{by_bool, eqb_true, eqb_false, eq_eqb, neq_eqb, true_false}
use Rattle.paper.proofs.base.Listed.{get_or_map_upto}
use Rattle.paper_laws.proofs.sheets.Hidden.{HasSet}
use Rattle.base_codes.specs.Inner.{field_code, token_code, side_code, tokens}
use Rattle.base_question.specs.Standings.{times, count, standing_times}

-- a token is the field exactly if its code is the field's
code_same : (f : ℕ) (t : Token) → HasSet t → eqb (field_code + f) (token_code t) ≡ is_field f t
code_same f (chr c) h = neq_eqb (field_code + f) c (λ (z : field_code + f ≡ c). omega arith)
code_same f (fld g) h =
    by_bool (eqb f g)
    (λ e. eq_eqb (field_code + f) (field_code + g) (ap (λ (x : ℕ). field_code + x) (eqb_true f g e)) ∙ sym e)
    (λ e. neq_eqb (field_code + f) (field_code + g) (λ (z : field_code + f ≡ field_code + g). eqb_false f g e (omega arith)) ∙ sym e)

one_more : {A B : Type 0} (b c : Bool) (x : A) (y : B) (l : List A) (m : List B) → b ≡ c → length l ≡ length m
    → length (only b x ++ l) ≡ length (only c y ++ m)
one_more true true x y l m e k = ap suc k
one_more true false x y l m e k = absurd (true_false refl e)
one_more false true x y l m e k = absurd (true_false refl (sym e))
one_more false false x y l m e k = k

pub codes_times : (f : ℕ) (side : Side) → ((t : Token) → Memᴰ t side → HasSet t) → count (field_code + f) (side_code side) ≡ times f side
codes_times f [] h = refl
codes_times f (t ∷ side) h =
    one_more (eqb (field_code + f) (token_code t)) (is_field f t) (token_code t) t (keep (eqb (field_code + f)) (side_code side)) (keep (is_field f) side)
    (code_same f t (h t (Memᴰ.head refl)))
    (codes_times f side (λ u d. h u (Memᴰ.tail d)))

pub standings_are : (side : Side) → ((t : Token) → Memᴰ t side → HasSet t) → (left right : List ℕ) → tokens left ++ tokens right ≡ side_code side
    → (f : ℕ) → f < set_fields → get_or (standing_times left right) f 0 ≡ times f side
unfolding standing_times
standings_are side h left right e f k =
    get_or_map_upto (λ (g : ℕ). count (field_code + g) (tokens left ++ tokens right)) 0 set_fields f k
    ∙ ap (count (field_code + f)) e ∙ codes_times f side h

-- a field stands where the number is not 0
some_or_none : {A : Type 0} (b c : Bool) (x : A) (l : List A) → not (eqb (length l) 0) ≡ c → not (eqb (length (only b x ++ l)) 0) ≡ (b || c)
some_or_none true c x l e = rw (neq_eqb (suc (length l)) 0 (λ (z : suc (length l) ≡ 0). omega arith))
some_or_none false c x l e = e

pub stands_times : (f : ℕ) (side : Side) → not (eqb (times f side) 0) ≡ stands_in f side
stands_times f [] = refl
stands_times f (t ∷ side) = some_or_none (is_field f t) (stands_in f side) t (keep (is_field f) side) (stands_times f side)
