-- From which places a text may end, by masks, is what the definition says of a place set:
--   can_read : can_end h cs k s ≡ meets (mask s) (ending .. k), where cs are all characters
-- A text of k characters may end from a set exactly if it may from some place of it (`can_is`): "some character leads to some place" and "some place
-- that comes next takes some character" are one `any` within another, either way round.
use Prim.Native.Nat.{ℕ, zero, suc, ◌≤◌, ◌<◌}
use native.Mathlib.Omega.{arith}
use mathlib.Core.Path.{◌≡◌, refl, sym, ap, ap₂, ◌∙◌}
use mathlib.Core.Bool.{Bool, true, ◌&&◌}
use mathlib.Core.List.{List}
use lib.Bits.{bit_and}
use lib.ListN.{get_or}
use Rattle.paper.specs.Lists.{upto, any, member}
use Rattle.paper.specs.Numbers.{most_characters}
use Rattle.paper.specs.Pattern.{Held}
use Rattle.paper.specs.Places.{PlaceSet, ends_at, set_after, may_end}
use Rattle.paper.proofs.base.Tests.{same_tests, and_left, and_right, both_true}
use Rattle.paper.proofs.base.Lists.{any_true, mem_any, mem_upto, upto_mem, member_true, mem_member}
use Rattle.paper.proofs.base.Listed.{any_same}
use Rattle.paper_decide.specs.OneText.{can_end}
use Rattle.base_places.specs.Masks.{places, mask, mask_of, in_mask, comes_next, takes_at, follow_masks, taking_mask, taking_masks, last_mask}
use Rattle.base_places.proofs.MaskOf.{in_mask_of, mask_of_same, mask_of_and}
use Rattle.base_places.proofs.Filling.{get_or_table}
use Rattle.base_places.proofs.Masks.{Masked, Few, masked_after, tests_meet, mask_meets, member_after, taking_at}
use Rattle.decide_texts.specs.TextsCoded.{meets, taken_by, leading_to, ending}

-- what a field may hold
module _ (h : Held) (few : Few h) (n : ℕ) (most : n ≤ most_characters) where
  abbrev cs : List ℕ
  cs = upto n

  -- some character is taken at the place q
  some_taken : ℕ → Bool
  some_taken q = any (λ (c : ℕ). takes_at h q c) cs

  taken_is : taken_by n (taking_masks h) ≡ mask_of some_taken
  unfolding taken_by taking_mask some_taken
  taken_is =
      mask_of_same (λ (p : ℕ). any (λ (c : ℕ). in_mask (get_or (taking_masks h) c 0) p) (upto n)) some_taken
      (λ p l.
      any_same (λ (c : ℕ). in_mask (get_or (taking_masks h) c 0) p) (λ (c : ℕ). takes_at h p c) (upto n)
      (λ c d.
      let k : c < n = mem_upto n d in
      ap (λ (m : ℕ). in_mask m p) (taking_at h c (omega arith)) ∙ in_mask_of (λ (q : ℕ). takes_at h q c) p l))

  -- a text of k characters may end from the place i
  from_place : ℕ → ℕ → Bool
  from_place zero i = ends_at h i
  from_place (suc k) i = any (λ (q : ℕ). comes_next h i q && (some_taken q && from_place k q)) (upto places)

  -- by masks
  leading_is : (t : ℕ → Bool) → leading_to (follow_masks h) (mask_of t) ≡ mask_of (λ (i : ℕ). any (λ (q : ℕ). comes_next h i q && t q) (upto places))
  unfolding leading_to follow_masks
  leading_is t =
      mask_of_same (λ (i : ℕ). meets (get_or (follow_masks h) i 0) (mask_of t)) (λ (i : ℕ). any (λ (q : ℕ). comes_next h i q && t q) (upto places))
      (λ i l.
      ap (λ (m : ℕ). meets m (mask_of t)) (get_or_table (λ (i : ℕ). mask_of (λ (q : ℕ). comes_next h i q)) places i l)
      ∙ tests_meet (λ (q : ℕ). comes_next h i q) t)

  abbrev pub ends : ℕ → ℕ
  ends = ending (follow_masks h) (taken_by n (taking_masks h)) (last_mask h)

  ends_are : (k : ℕ) → ends k ≡ mask_of (from_place k)
  unfolding ending last_mask from_place
  ends_are zero = refl
  ends_are (suc k) =
      ap (leading_to (follow_masks h)) (ap₂ bit_and taken_is (ends_are k) ∙ mask_of_and some_taken (from_place k))
      ∙ leading_is (λ (q : ℕ). some_taken q && from_place k q)

  -- one character more
  module _ (k : ℕ) (s : PlaceSet) (m : Masked s) where
    led : any (λ (c : ℕ). any (from_place k) (set_after h s c)) cs ≡ true → any (from_place (suc k)) s ≡ true
    unfolding from_place some_taken
    led e =
        let (c, in-cs, at_c) = any_true (λ (c : ℕ). any (from_place k) (set_after h s c)) cs e in
        let (q, in_after, goes) = any_true (from_place k) (set_after h s c) at_c in
        let below : q < places = (masked_after h s c few m).below q in_after in
        let next = any (λ (i : ℕ). comes_next h i q) s in
        let both : next && takes_at h q c ≡ true = member_after h s c q ∙ mem_member q (set_after h s c) in_after in
        let (i, in-s, comes) = any_true (λ (i : ℕ). comes_next h i q) s (and_left next (takes_at h q c) both) in
        let taken : some_taken q ≡ true = mem_any (λ (c : ℕ). takes_at h q c) cs in-cs (and_right next (takes_at h q c) both) in
        mem_any (from_place (suc k)) s in-s
        (mem_any (λ (q : ℕ). comes_next h i q && (some_taken q && from_place k q)) (upto places) (upto_mem places below) (both_true comes (both_true taken goes)))

    leads : any (from_place (suc k)) s ≡ true → any (λ (c : ℕ). any (from_place k) (set_after h s c)) cs ≡ true
    unfolding from_place some_taken
    leads e =
        let (i, in-s, at_i) = any_true (from_place (suc k)) s e in
        let (q, in-places, at-q) = any_true (λ (q : ℕ). comes_next h i q && (some_taken q && from_place k q)) (upto places) at_i in
        let comes = and_left (comes_next h i q) (some_taken q && from_place k q) at-q in
        let both = and_right (comes_next h i q) (some_taken q && from_place k q) at-q in
        let (c, in-cs, takes) = any_true (λ (c : ℕ). takes_at h q c) cs (and_left (some_taken q) (from_place k q) both) in
        let here : member q (set_after h s c) ≡ true = sym (member_after h s c q) ∙ both_true (mem_any (λ (i : ℕ). comes_next h i q) s in-s comes) takes in
        mem_any (λ (c : ℕ). any (from_place k) (set_after h s c)) cs in-cs
        (mem_any (from_place k) (set_after h s c) (member_true q (set_after h s c) here) (and_right (some_taken q) (from_place k q) both))

  can_is : (k : ℕ) (s : PlaceSet) → Masked s → can_end h cs k s ≡ any (from_place k) s
  unfolding may_end from_place
  can_is zero s m = refl
  can_is (suc k) s m =
      any_same (λ (c : ℕ). can_end h cs k (set_after h s c)) (λ (c : ℕ). any (from_place k) (set_after h s c)) cs
      (λ c d. can_is k (set_after h s c) (masked_after h s c few m))
      ∙ same_tests (any (λ (c : ℕ). any (from_place k) (set_after h s c)) cs) (any (from_place (suc k)) s) (led k s m) (leads k s m)

  pub can_read : (k : ℕ) (s : PlaceSet) → Masked s → can_end h cs k s ≡ meets (mask s) (ends k)
  can_read k s m = can_is k s m ∙ sym (mask_meets (from_place k) s m) ∙ ap (meets (mask s)) (sym (ends_are k))
