-- What a side's token in front may do, by its tables and by the paper:
--   comes_held, held_comes : of a field a place comes by a character as the paper says, and it is one of the field's places
--   held_left              : and it may be left where the paper lets it end
--   comes_one, one_comes, one_left : a character in front is read from its start to the place behind it, and is left from there
--   none_comes, none_left  : a side's end is neither read nor left
-- Follows from the laws of masks of tests.
use Prim.Native.Nat.{ℕ, zero, suc, ◌≤◌, ◌<◌}
use native.Mathlib.Omega.{arith}
use mathlib.Core.Path.{◌≡◌, refl, sym, ap, ap₂, ◌∙◌}
use mathlib.Core.Bool.{true, ◌&&◌, and-true}
use lib.Dec.{eqb, ltb}
use lib.ListN.{get_or, get_or-replicate}
use Rattle.paper.specs.Numbers.{most_characters, most_leaves}
use Rattle.paper.specs.Pattern.{Held, some_text, pattern}
use Rattle.paper.specs.Places.{leaf_takes, follows, ends_at}
use Rattle.paper.proofs.base.Tests.{true_false, and_left, and_right, both_true, lt_ltb, ltb_true, eqb_true}
use Rattle.paper_laws.proofs.places.Parts.{takes_within}
use Rattle.paper_plain.specs.Standing as Paper
use Rattle.paper_plain.specs.Standing.{places_of}
use Rattle.base_places.specs.Masks.{places, mask_of, in_mask, comes_next, takes_at, follow_masks, taking_mask, last_mask}
use Rattle.base_places.specs.WorkedOut.{worked_out}
use Rattle.base_places.specs.declared.PlaceTables.{PlaceTables}
use Rattle.base_places.proofs.MaskOf.{in_mask_of, in_mask_out}
use Rattle.base_places.proofs.Filling.{get_or_table}
use Rattle.base_places.proofs.Masks.{Few, taking_at}
use Rattle.plain_block.specs.Met.{comes_by, may_be_left}
use Rattle.plain_rows.specs.Fronts.{no_tables, one_place}
use Rattle.plain_question.proofs.Entered.{in_none, get_or_none}

-- the tests of a place that comes by a character
within_places : (t : PlaceTables) (i c q : ℕ) → comes_by t i c q ≡ true → (i < places) × (q < places)
within_places t i c q e =
    let w = and_left (ltb i places && ltb q places) _ e in
    (ltb_true i places (and_left (ltb i places) (ltb q places) w), ltb_true q places (and_right (ltb i places) (ltb q places) w))

follows_by : (t : PlaceTables) (i c q : ℕ) → comes_by t i c q ≡ true → in_mask (get_or t.follow i 0) q ≡ true
follows_by t i c q e = and_left (in_mask (get_or t.follow i 0) q) _ (and_right (ltb i places && ltb q places) _ e)

-- A field.
module _ (h : Held) where
  both_tests : (i c q : ℕ) → comes_next h i q && takes_at h q c ≡ Paper.comes_by h i c q
  both_tests i c q = of h
    where
      of : (h : Held) → comes_next h i q && takes_at h q c ≡ Paper.comes_by h i c q
      of some_text = and-true (eqb q 1)
      of (pattern p) = refl

  comes_same : (i c q : ℕ) → i < places → q < places → c < most_characters → comes_by (worked_out h) i c q ≡ Paper.comes_by h i c q
  unfolding follow_masks taking_mask
  comes_same i c q a b k =
      ap₂ ◌&&◌ (both_true (lt_ltb i places a) (lt_ltb q places b))
      (ap₂ ◌&&◌
      (ap (λ (m : ℕ). in_mask m q) (get_or_table (λ (j : ℕ). mask_of (λ (s : ℕ). comes_next h j s)) places i a) ∙ in_mask_of (λ (s : ℕ). comes_next h i s) q b)
      (ap (λ (m : ℕ). in_mask m q) (taking_at h c k) ∙ in_mask_of (λ (s : ℕ). takes_at h s c) q b)
      ∙ both_tests i c q)

  pub few_places : Few h → places_of h ≤ places
  few_places = of h
    where
      of : (h : Held) → Few h → places_of h ≤ places
      of some_text f = omega arith
      of (pattern p) f = omega arith

  -- the place that comes is one of the field's
  next_place : (i c q : ℕ) → Paper.comes_by h i c q ≡ true → q < places_of h
  next_place i c q = of h
    where
      of : (h : Held) → Paper.comes_by h i c q ≡ true → q < places_of h
      of some_text e = omega (arith, eqb_true q 1 e)
      of (pattern p) e = omega (arith, (takes_within p 1 q c (and_right (follows p i q) (leaf_takes p 1 q c) e)).high)

  pub comes_held : (i c q : ℕ) → c < most_characters → comes_by (worked_out h) i c q ≡ true → (q < places_of h) × (Paper.comes_by h i c q ≡ true)
  comes_held i c q k e =
      let w = within_places (worked_out h) i c q e in
      let t = sym (comes_same i c q w.0 w.1 k) ∙ e in
      (next_place i c q t, t)

  pub held_comes : Few h → (i c q : ℕ) → c < most_characters → i < places_of h → q < places_of h → Paper.comes_by h i c q ≡ true → comes_by (worked_out h) i c q ≡ true
  held_comes f i c q k a b e = let n = few_places f in comes_same i c q (omega arith) (omega arith) k ∙ e

  pub held_left : Few h → (i : ℕ) → i < places_of h → may_be_left (worked_out h) i ≡ ends_at h i
  unfolding last_mask
  held_left f i a = let n = few_places f in in_mask_of (λ (j : ℕ). ends_at h j) i (omega arith)

-- A character: one leaf, which follows the start alone.
in_one : (q : ℕ) → in_mask 2 q ≡ true → q ≡ 1
unfolding in_mask
in_one zero e = absurd (true_false e refl)
in_one (suc zero) e = refl
in_one (suc (suc q)) e = absurd (true_false e (in_mask_out 2 2 (suc (suc q)) (omega arith) (omega arith)))

one_follows : (i q : ℕ) → in_mask (get_or one_place.follow i 0) q ≡ true → (i ≡ 0) × (q ≡ 1)
unfolding one_place
one_follows zero q e = (refl, in_one q e)
one_follows (suc i) q e = absurd (in_none q (sym (ap (λ (m : ℕ). in_mask m q) (get_or_none most_leaves i)) ∙ e))

pub one_comes : (i c q : ℕ) → comes_by one_place i c q ≡ true → (i ≡ 0) × (q ≡ 1)
one_comes i c q e = one_follows i q (follows_by one_place i c q e)

pub comes_one : (c : ℕ) → c < most_characters → comes_by one_place 0 c 1 ≡ true
unfolding one_place in_mask
comes_one c h = rw (get_or-replicate {A = ℕ} most_characters c 2 0 h) refl

pub one_left : (i : ℕ) → may_be_left one_place i ≡ true → i ≡ 1
unfolding one_place
one_left i e = in_one i e

pub left_one : may_be_left one_place 1 ≡ true
unfolding one_place in_mask
left_one = refl

-- A side's end.
pub none_comes : (i c q : ℕ) → comes_by no_tables i c q ≡ true → ⊥
unfolding no_tables
none_comes i c q e = in_none q (sym (ap (λ (m : ℕ). in_mask m q) (get_or_none places i)) ∙ follows_by no_tables i c q e)

pub none_left : (i : ℕ) → may_be_left no_tables i ≡ true → ⊥
unfolding no_tables
none_left i e = in_none i e
