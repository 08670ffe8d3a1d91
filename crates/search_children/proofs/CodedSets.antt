-- Place sets as masks, in a situation: the set of a field, which fields may end, the set after a character, the test of sets. And the
-- tables over some of the characters: `row_every` says that over every character a row of them is that of the question's own, for its characters.
-- Holds of codable situations, which are those that their codes tell apart: known tokens, a set for each field, rising places below 64;
-- and of fields with few leaves. Follows from the laws of masks.
use Prim.Native.Nat.{ℕ, zero, suc, ◌+◌, ◌≤◌, ◌<◌}
use native.Mathlib.Omega.{arith}
use mathlib.Core.Path.{◌≡◌, refl, ap, ap₂, ◌∙◌, subst}
use mathlib.Core.Bool.{Bool, true, not, ◌&&◌, cond, or-false}
use mathlib.Core.List.{List, [], ◌∷◌, map}
use lib.Bits.{and_zero_r}
use lib.Dec.{ltb, eqb}
use lib.ListN.{length, get_or, set, get_or-map}
use lib.Seq.{get_or-set_same, get_or-set_other}
use Rattle.paper.specs.Lists.{same_by}
use Rattle.paper.specs.Numbers.{most_characters, set_fields}
use Rattle.paper.specs.Pattern.{Held}
use Rattle.paper.specs.Places.{PlaceSet, same_set}
use Rattle.paper.specs.Equation.{chr, fld, Side}
use Rattle.paper.specs.Situation.{Situation, front_field, set_of, front_may_end, front_takes}
use Rattle.paper.specs.Question.{Question, held_by}
use Rattle.paper_chosen.specs.Chosen.{every, acceptor_over}
use Rattle.paper.proofs.base.Tests.{by_bool, cond_by, ltb_true, same_tests, lt_ltb, neq_eqb, eq_eqb, eqb_true, eqb_false}
use Rattle.paper.proofs.base.Lists.{cons_eq}
use Rattle.paper_laws.proofs.places.PlaceSets.{same_equal, equal_same}
use Rattle.paper.proofs.base.Listed.{get_or_map_upto}
use Rattle.base_places.proofs.Masks.{taking_at, Masked, Few, mask_same, mask_empty, mask_may_end, mask_after}
use Rattle.base_places.proofs.Filling.{get_or_table}
use Rattle.base_places.specs.Masks.{mask, follow_masks, taking_mask, taking_masks, last_mask, followers_of}
use Rattle.base_codes.specs.Inner.{field_code, no_token, side_code, field_of, front}
use Rattle.search_fronts.specs.Fronts.{Front, row_number, front_from, set_by, takes_next}
use Rattle.search_children.specs.Children.{may_end_at}
use Rattle.search_children.specs.Coding.{situation_code, tables_of, taking_over, tables_over}
use Rattle.search_children.proofs.CodedSides.{KnownSide, char_not_field, field_is_field, field_of_code}

pub record Codable (s : Situation PlaceSet) : Type 0 where
  pub left : KnownSide s.left
  pub right : KnownSide s.right
  pub many : length s.sets ≡ set_fields
  pub masked : (f : ℕ) → Masked (get_or s.sets f [])

-- a field's new set
pub set_mask : (l : List PlaceSet) (f : ℕ) (s : PlaceSet) → set (map mask l) f (mask s) ≡ map mask (set l f s)
set_mask [] f s = refl
set_mask (t ∷ l) zero s = refl
set_mask (t ∷ l) (suc f) s = cons_eq refl (set_mask l f s)

pub masked_set : (l : List PlaceSet) (f : ℕ) (s : PlaceSet) → f < length l → Masked s
    → ((g : ℕ) → Masked (get_or l g [])) → (g : ℕ) → Masked (get_or (set l f s) g [])
masked_set l f s b h k g =
    by_bool (eqb g f)
    (λ e. rw (eqb_true g f e, get_or-set_same l f s [] b) h)
    (λ e. rw (get_or-set_other l f g s [] (eqb_false g f e)) (k g))

-- the test of sets
set_coded : (s t : PlaceSet) → Masked s → Masked t → eqb (mask s) (mask t) ≡ same_set s t
set_coded s t h k =
    same_tests (eqb (mask s) (mask t)) (same_set s t)
    (λ e. subst (λ (u : PlaceSet). same_set s u ≡ true) (mask_same s t h k (eqb_true (mask s) (mask t) e)) (equal_same s))
    (λ e. eq_eqb (mask s) (mask t) (ap mask (same_equal s t e)))

pub same_sets : (l m : List PlaceSet) → ((f : ℕ) → Masked (get_or l f [])) → ((f : ℕ) → Masked (get_or m f []))
    → same_by eqb (map mask l) (map mask m) ≡ same_by same_set l m
same_sets [] [] h k = refl
same_sets [] (t ∷ m) h k = refl
same_sets (s ∷ l) [] h k = refl
same_sets (s ∷ l) (t ∷ m) h k = ap₂ ◌&&◌ (set_coded s t (h 0) (k 0)) (same_sets l m (λ f. h (suc f)) (λ f. k (suc f)))

-- what a character lets through, in the table over some
pub taking_over_at : (n : ℕ) → n ≤ most_characters → (among : ℕ → Bool) (h : Held) (c : ℕ) → c < n
    → get_or (taking_over n among h) c 0 ≡ cond (among c) (taking_mask h c) 0
unfolding taking_over
taking_over_at n m among h c k =
    get_or_table (λ (x : ℕ). cond (ltb x n && among x) (taking_mask h x) 0) most_characters c (omega arith) ∙ rw (lt_ltb c n k)

-- every token has a row
pub row_known : (b : ℕ) → row_number b < set_fields
unfolding row_number
row_known b = cond_by (λ (f : ℕ). f < set_fields) (ltb (field_of b) set_fields) (λ h. ltb_true (field_of b) set_fields h) (λ _. omega arith)

-- Over every character a row of the tables is that of the question's own tables, for its characters.
pub row_every : (q : Question) → q.alphabet.characters ≤ most_characters → (f c : ℕ) → f < set_fields → c < q.alphabet.characters
    → get_or (get_or (tables_of q).taking f []) c 0 ≡ get_or (get_or (tables_over every q).taking f []) c 0
unfolding tables_over tables_of
row_every q m f c h k =
    rw (
      get_or_map_upto (λ (g : ℕ). taking_masks (held_by q g)) [] set_fields f h,
      get_or_map_upto (λ (g : ℕ). taking_over q.alphabet.characters every (held_by q g)) [] set_fields f h,
      taking_over_at q.alphabet.characters m every (held_by q f) c k,
    )
    (taking_at (held_by q f) c (omega arith))

-- a field's set, and a token in front
module _ (among : ℕ → Bool) (q : Question) (s : Situation PlaceSet) where
  abbrev the_set : ℕ → PlaceSet
  the_set f = set_of (acceptor_over among q) s f

  set_at_coded : (f : ℕ) → get_or (situation_code s).sets (field_of (field_code + f)) 0 ≡ mask (the_set f)
  unfolding acceptor_over
  set_at_coded f = rw (field_of_code f) (get_or-map mask s.sets f [])

  -- the token in front, with what is worked out once of it
  abbrev pub front_at : ℕ → Front
  front_at b = front_from (tables_over among q).follow (tables_over among q).taking (situation_code s).sets b

module _ (among : ℕ → Bool) (q : Question) (most : q.alphabet.characters ≤ most_characters) (few : (f : ℕ) → Few (held_by q f)) (s : Situation PlaceSet) (codable : Codable s) where
  masked_at : (f : ℕ) → Masked (the_set among q s f)
  unfolding acceptor_over
  masked_at f = codable.masked f

  -- "a field whose set may end"
  pub may_end_coded : (side : Side) → KnownSide side
      → may_end_at (situation_code s).sets (tables_over among q).last (front (side_code side)) ≡ front_may_end (acceptor_over among q) s (front_field side)
  unfolding may_end_at acceptor_over tables_over
  may_end_coded [] k = refl
  may_end_coded (chr a ∷ side) k = rw (char_not_field a k.0)
  may_end_coded (fld f ∷ side) k =
      let last = get_or_map_upto (λ (g : ℕ). last_mask (held_by q g)) 0 set_fields f k.0 in
      rw (field_is_field f k.0, set_at_coded among q s f, field_of_code f, last, or-false)
      (mask_may_end (held_by q f) (the_set among q s f) (masked_at f))

  -- the set after a character
  pub set_by_coded : (f c : ℕ) → f < set_fields → c < q.alphabet.characters
      → set_by (front_at among q s (field_code + f)) c ≡ mask ((acceptor_over among q).set_after f (the_set among q s f) c)
  unfolding front_from row_number acceptor_over tables_over
  set_by_coded f c h k =
      let follow = get_or_map_upto (λ (g : ℕ). follow_masks (held_by q g)) [] set_fields f h in
      let n = q.alphabet.characters in
      let taking = get_or_map_upto (λ (g : ℕ). taking_over n among (held_by q g)) [] set_fields f h in
      rw (set_at_coded among q s f, field_of_code f, lt_ltb f set_fields h, follow, taking, taking_over_at n most among (held_by q f) c k)
      (by_bool (among c)
      (λ e. rw e (mask_after (held_by q f) (the_set among q s f) c (few f) (masked_at f)))
      (λ e. rw e (and_zero_r (followers_of (follow_masks (held_by q f)) (mask (the_set among q s f))))))

  -- "a character in front must be c, and each front field's set after c must not be empty"
  pub takes_coded : (side : Side) (c : ℕ) → c < q.alphabet.characters → KnownSide side
      → takes_next (front (side_code side)) (set_by (front_at among q s (front (side_code side))) c) c ≡ front_takes (acceptor_over among q) s c side
  unfolding takes_next acceptor_over
  takes_coded [] c h k = neq_eqb no_token c (λ (e : no_token ≡ c). omega arith)
  takes_coded (chr a ∷ side) c h k = rw (char_not_field a k.0)
  takes_coded (fld f ∷ side) c h k =
      rw (field_is_field f k.0, set_by_coded f c k.0 h) (ap not (mask_empty ((acceptor_over among q).set_after f (the_set among q s f) c)))
