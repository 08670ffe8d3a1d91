-- The least ones by codes and masks are those of the definition:
--   alike_masks   : the masks of two characters are equal exactly if every leaf takes both or neither
--   fixed_read, standing_read, mask_read : the marks and the tables of a question say what its tokens and leaves do
--   is_least_read : is_least_coded .. c ≡ is_least q c, of a character c of a question that can be searched
-- Follows from the laws of masks, and from the codes of known tokens being different.
use Prim.Native.Nat.{ℕ, ◌+◌, ◌<◌}
use native.Mathlib.Omega.{arith}
use mathlib.Core.Path.{◌≡◌, refl, sym, ap, ap₂, ◌∙◌}
use mathlib.Core.Bool.{Bool, true, false, not, ◌&&◌, ◌||◌}
use mathlib.Core.List.{List, [], ◌∷◌, ◌++◌, Memᴰ}
use lib.Dec.{eqb}
use lib.ListN.{get_or}
use Rattle.paper.specs.Lists.{upto, any, all, only, keep, member}
use Rattle.paper.specs.Numbers.{most_characters, set_fields}
use Rattle.paper.specs.Pattern.{Pattern, Held, some_text, pattern}
use Rattle.paper.specs.Places.{leaves, leaf_takes, leaf_places}
use Rattle.paper.specs.Equation.{chr, fld, Side, stands_in}
use Rattle.paper.specs.Question.{Question, held_by}
use Rattle.paper.proofs.base.Tests.{same_tests, eqb_true, eqb_same, eq_eqb, neq_eqb}
use Rattle.paper.proofs.base.Lists.{every_all, all_true, mem_from, from_mem, mem_upto, map_append}
use Rattle.paper.proofs.base.Listed.{any_same}
use Rattle.paper_laws.proofs.places.Parts.{takes_within}
use Rattle.paper_laws.proofs.sheets.Asked.{GoodHeld}
use Rattle.paper_laws.proofs.sheets.Hidden.{Searchable}
use Rattle.paper_decide.specs.Alike.{leaf_takes_it, both_or_neither, alike_in, is_character, fixed, fields_standing, alike, is_least}
use Rattle.base_places.specs.Masks.{places, mask_of, in_mask, taking_mask}
use Rattle.base_places.proofs.MaskOf.{in_mask_of, mask_of_same}
use Rattle.base_codes.specs.Inner.{field_code, token_code, side_code}
use Rattle.search_children.specs.Coding.{tables_of}
use Rattle.search_children.proofs.CodedSides.{KnownSide, known_side}
use Rattle.search_children.proofs.CodedQuestion.{stands_coded, known_append}
use Rattle.decide_alike.specs.AlikeCoded.{fixed_coded, standing_coded, mask_at, same_in, same_places, alike_coded, is_least_coded}
use Rattle.search_tables.proofs.CutOver.{mask_held}
use Rattle.search_tables.proofs.Listed.{get_or_listed}
use Rattle.decide_alike.proofs.Marks.{marked_at}

-- both or neither
same_both : (x y : Bool) → x ≡ y → both_or_neither x y ≡ true
same_both true y e = sym e
same_both false true e = e
same_both false false e = refl

both_right : (x y : Bool) → both_or_neither x y ≡ true → x ≡ true → y ≡ true
both_right true y e h = e
both_right false y e h = absurd (let z : ◌≡◌ {A = ℕ} 0 1 = cc in omega arith)

both_left : (x y : Bool) → both_or_neither x y ≡ true → y ≡ true → x ≡ true
both_left true y e h = refl
both_left false true e h = e
both_left false false e h = h

-- what a mask of the tables says of a place
pub in_taking : (h : Held) (p c : ℕ) → p < places → in_mask (taking_mask h c) p ≡ leaf_takes_it h p c
unfolding taking_mask
in_taking some_text p c b = in_mask_of (λ (q : ℕ). true) p b
in_taking (pattern r) p c b = in_mask_of (λ (q : ℕ). leaf_takes r 1 q c) p b

module _ (n : ℕ) (p : Pattern) (good : GoodHeld n (pattern p)) (a b : ℕ) where
  abbrev both : ℕ → Bool
  both i = both_or_neither (leaf_takes p 1 i a) (leaf_takes p 1 i b)

  equal_both : taking_mask (pattern p) a ≡ taking_mask (pattern p) b → all both (leaf_places p) ≡ true
  equal_both e =
      every_all both (leaf_places p)
      (λ i d.
      let w = mem_from 1 (leaves p) d in
      let l : i < places = omega (arith, w, good.1) in
      same_both (leaf_takes p 1 i a) (leaf_takes p 1 i b)
      (sym (in_taking (pattern p) i a l) ∙ ap (λ (m : ℕ). in_mask m i) e ∙ in_taking (pattern p) i b l))

  at_leaf : all both (leaf_places p) ≡ true → (i c : ℕ) → leaf_takes p 1 i c ≡ true → both i ≡ true
  at_leaf e i c t = let w = takes_within p 1 i c t in all_true both (leaf_places p) e (from_mem 1 (leaves p) w.low w.high)

  both_equal : all both (leaf_places p) ≡ true → taking_mask (pattern p) a ≡ taking_mask (pattern p) b
  unfolding taking_mask
  both_equal e =
      mask_of_same (λ (i : ℕ). leaf_takes p 1 i a) (λ (i : ℕ). leaf_takes p 1 i b)
      (λ i l.
      same_tests (leaf_takes p 1 i a) (leaf_takes p 1 i b)
      (λ t. both_right (leaf_takes p 1 i a) (leaf_takes p 1 i b) (at_leaf e i a t) t)
      (λ t. both_left (leaf_takes p 1 i a) (leaf_takes p 1 i b) (at_leaf e i b t) t))

pub alike_masks : (n : ℕ) (h : Held) → GoodHeld n h → (a b : ℕ) → eqb (taking_mask h a) (taking_mask h b) ≡ alike_in h a b
unfolding alike_in taking_mask
alike_masks n some_text good a b = eqb_same (mask_of (λ (q : ℕ). true))
alike_masks n (pattern p) good a b =
    same_tests (eqb (taking_mask (pattern p) a) (taking_mask (pattern p) b)) (all (both n p good a b) (leaf_places p))
    (λ e. equal_both n p good a b (eqb_true (taking_mask (pattern p) a) (taking_mask (pattern p) b) e))
    (λ e. eq_eqb (taking_mask (pattern p) a) (taking_mask (pattern p) b) (both_equal n p good a b e))

-- a fixed character stands where its code does
fixed_codes : (c : ℕ) (side : Side) → c < most_characters → member c (side_code side) ≡ any (is_character c) side
fixed_codes c [] h = refl
fixed_codes c (chr a ∷ side) h = ap (λ (b : Bool). eqb c a || b) (fixed_codes c side h)
fixed_codes c (fld f ∷ side) h = rw (neq_eqb c (field_code + f) (λ e. omega arith)) (fixed_codes c side h)

-- a test on the members that are kept
all_only : {A : Type 0} (p : A → Bool) (b : Bool) (x : A) (l : List A) → all p (only b x ++ l) ≡ (not b || p x) && all p l
all_only p true x l = refl
all_only p false x l = refl

all_kept : {A : Type 0} (t s p : A → Bool) (l : List A) → ((x : A) → Memᴰ x l → t x ≡ not (s x) || p x) → all t l ≡ all p (keep s l)
all_kept t s p [] h = refl
all_kept t s p (x ∷ l) h =
    ap₂ ◌&&◌ (h x (Memᴰ.head refl)) (all_kept t s p l (λ y d. h y (Memᴰ.tail d))) ∙ sym (all_only p (s x) x (keep s l))

-- the codes of both sides
abbrev pub codes_of : Question → List ℕ
codes_of q = side_code q.left ++ side_code q.right

abbrev pub taking_of : Question → List (List ℕ)
taking_of q = (tables_of q).taking

module _ (q : Question) where
  codes_joined : side_code (q.left ++ q.right) ≡ codes_of q
  codes_joined = map_append token_code q.left q.right

  pub fixed_read : (n c : ℕ) → c < n → c < most_characters → get_or (fixed_coded n (codes_of q)) c false ≡ fixed q c
  unfolding fixed_coded fixed
  fixed_read n c b h =
      marked_at (λ (c : ℕ). member c (codes_of q)) n c b h
      ∙ ap (member c) (sym codes_joined) ∙ fixed_codes c (q.left ++ q.right) h

  -- the mask of a character in a field's row
  pub mask_read : (f c : ℕ) → f < set_fields → c < most_characters → mask_at (taking_of q) f c ≡ taking_mask (held_by q f) c
  unfolding tables_of
  mask_read = mask_held (held_by q)

module _ (q : Question) (good : Searchable q) where
  known : KnownSide (q.left ++ q.right)
  known = known_append q.left q.right (known_side q.left good.left) (known_side q.right good.right)

  pub standing_read : (f : ℕ) → f < set_fields → get_or (standing_coded (codes_of q)) f false ≡ stands_in f (q.left ++ q.right)
  unfolding standing_coded
  standing_read f h =
      get_or_listed (λ (f : ℕ). member (field_code + f) (codes_of q)) set_fields false f h
      ∙ ap (member (field_code + f)) (sym (codes_joined q)) ∙ stands_coded f (q.left ++ q.right) known

  abbrev many : ℕ
  many = q.alphabet.characters

  module _ (a b : ℕ) (h : a < many) (k : b < many) where
    abbrev room_a : a < most_characters
    room_a = omega (arith, good.most)

    abbrev room_b : b < most_characters
    room_b = omega (arith, good.most)

    same_places_read : same_places (standing_coded (codes_of q)) (taking_of q) a b ≡ all (λ (f : ℕ). alike_in (held_by q f) a b) (fields_standing q)
    unfolding same_places fields_standing
    same_places_read =
        all_kept (same_in (standing_coded (codes_of q)) (taking_of q) a b) (λ (f : ℕ). stands_in f (q.left ++ q.right))
        (λ (f : ℕ). alike_in (held_by q f) a b) (upto set_fields)
        (λ f d.
        let l = mem_upto set_fields d in
        ap₂ (λ (x y : Bool). not x || y) (standing_read f l)
        (ap₂ eqb (mask_read q f a l room_a) (mask_read q f b l room_b) ∙ alike_masks many (held_by q f) (good.held f) a b))

    alike_read : (a ≡ b → ⊥) → alike_coded (fixed_coded many (codes_of q)) (standing_coded (codes_of q)) (taking_of q) a b ≡ alike q a b
    unfolding alike_coded alike
    alike_read n = rw (neq_eqb a b n, fixed_read q many a h room_a, fixed_read q many b k room_b, same_places_read)

  pub is_least_read : (c : ℕ) → c < many
      → is_least_coded (fixed_coded many (codes_of q)) (standing_coded (codes_of q)) (taking_of q) c ≡ is_least q c
  unfolding is_least_coded is_least
  is_least_read c h =
      ap not
      (any_same (λ (a : ℕ). alike_coded (fixed_coded many (codes_of q)) (standing_coded (codes_of q)) (taking_of q) a c) (λ (a : ℕ). alike q a c) (upto c)
      (λ a d. let l = mem_upto c d in alike_read a c (omega arith) h (λ e. omega arith)))
