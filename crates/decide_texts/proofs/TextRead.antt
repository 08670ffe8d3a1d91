-- The text that is tried, by masks, is that of the definition, and so are the tables of a field that holds it alone:
--   text_read : worked_out (text_held cs asked h) ≡ text_tables n asked (worked_out h)
-- Follows from `can_read`, character by character, and from the laws of masks.
use Prim.Native.Nat.{ℕ, zero, suc, ◌≤◌, ◌<◌}
use native.Mathlib.Omega.{arith}
use mathlib.Core.Path.{◌≡◌, refl, sym, ap, ◌∙◌}
use mathlib.Core.Bool.{Bool, true, false, cond}
use mathlib.Core.List.{List, [], ◌∷◌, Memᴰ}
use lib.Bits.{bit_and}
use lib.Dec.{ltb}
use lib.ListN.{get_or}
use Rattle.paper.specs.Lists.{upto, keep}
use Rattle.paper.specs.Numbers.{most_characters}
use Rattle.paper.specs.Pattern.{Held, pattern}
use Rattle.paper.specs.Places.{PlaceSet, first_set, set_after}
use Rattle.paper.proofs.base.Lists.{cons_eq, mem_keep, mem_upto}
use Rattle.paper.proofs.base.Listed.{keep_same}
use Rattle.paper_decide.specs.OneText.{can_end, least_text, lengths_below, one_from, spelt_out, lengths_tried, text_held}
use Rattle.base_places.specs.Masks.{mask, followers_of, follow_masks, taking_masks}
use Rattle.base_places.specs.WorkedOut.{worked_out}
use Rattle.base_places.specs.declared.PlaceTables.{PlaceTables}
use Rattle.base_places.proofs.Masks.{Masked, Few, masked_first, masked_after, mask_after, taking_at}
use Rattle.decide_texts.specs.TextsCoded.{meets, start, length_coded, leads, first_to, text_from, spelt_tables, text_tables}
use Rattle.decide_texts.proofs.EndsRead.{ends, can_read}

-- the first of a list, or 0
first_below : (b : ℕ) (l : List ℕ) → 0 < b → ((x : ℕ) → Memᴰ x l → x < b) → get_or l 0 0 < b
first_below b [] h k = h
first_below b (x ∷ l) h k = k x (Memᴰ.head refl)

-- what is worked out of one of two
pub through : (b : Bool) (x y : Held) → worked_out (cond b x y) ≡ cond b (worked_out x) (worked_out y)
through true x y = refl
through false x y = refl

module _ (h : Held) (few : Few h) (n : ℕ) (most : n ≤ most_characters) where
  abbrev cs : List ℕ
  cs = upto n

  abbrev its_ends : ℕ → ℕ
  its_ends = ends h few n most

  -- the next character, where k characters are behind it
  module _ (k : ℕ) (s : PlaceSet) (m : Masked s) where
    abbrev next : ℕ
    next = followers_of (follow_masks h) (mask s)

    abbrev can : ℕ → Bool
    can c = can_end h cs k (set_after h s c)

    abbrev chosen : ℕ
    chosen = get_or (keep can cs) 0 0

    after_is : (c : ℕ) → c < most_characters → bit_and next (get_or (taking_masks h) c 0) ≡ mask (set_after h s c)
    after_is c b = ap (bit_and next) (taking_at h c b) ∙ mask_after h s c few m

    leads_is : (c : ℕ) → c < n → can c ≡ leads (taking_masks h) next (its_ends k) c
    leads_is c b =
        can_read h few n most k (set_after h s c) (masked_after h s c few m)
        ∙ ap (λ (x : ℕ). meets x (its_ends k)) (sym (after_is c (omega arith)))

    first_is : chosen ≡ first_to n (taking_masks h) next (its_ends k)
    unfolding first_to
    first_is =
        ap (λ (x : List ℕ). get_or x 0 0) (keep_same can (leads (taking_masks h) next (its_ends k)) cs (λ c d. leads_is c (mem_upto n d)))

    chosen_below : chosen < most_characters
    chosen_below =
        first_below most_characters (keep can cs) (omega arith)
        (λ c d. let b : c < n = mem_upto n (mem_keep can cs d).0 in omega arith)

    behind_is : mask (set_after h s chosen) ≡ bit_and next (get_or (taking_masks h) (first_to n (taking_masks h) next (its_ends k)) 0)
    behind_is = sym (after_is chosen chosen_below) ∙ ap (λ (c : ℕ). bit_and next (get_or (taking_masks h) c 0)) first_is

  text_is : (k : ℕ) (s : PlaceSet) → Masked s → least_text h cs k s ≡ text_from n (follow_masks h) (taking_masks h) its_ends k (mask s)
  unfolding text_from
  text_is zero s m = refl
  text_is (suc k) s m =
      let c = chosen k s m in
      cons_eq (first_is k s m)
      (text_is k (set_after h s c) (masked_after h s c few m)
      ∙ ap (text_from n (follow_masks h) (taking_masks h) its_ends k) (behind_is k s m))

  length_is : (asked : ℕ) → one_from lengths_tried (lengths_below h cs lengths_tried) asked ≡ length_coded its_ends asked
  unfolding length_coded
  length_is asked =
      ap (λ (l : List ℕ). one_from lengths_tried l asked)
      (keep_same (λ (k : ℕ). can_end h cs k first_set) (λ (k : ℕ). meets start (its_ends k)) (upto lengths_tried)
      (λ k d. can_read h few n most k first_set masked_first))

  pub text_read : (asked : ℕ) → worked_out (text_held cs asked h) ≡ text_tables n asked (worked_out h)
  unfolding text_tables spelt_tables
  text_read asked =
      let k = one_from lengths_tried (lengths_below h cs lengths_tried) asked in
      let spelt : ℕ → PlaceTables = λ (k : ℕ). spelt_tables (text_from n (follow_masks h) (taking_masks h) its_ends k start) in
      through (ltb k lengths_tried) (pattern (spelt_out (least_text h cs k first_set))) h
      ∙ ap (λ (w : List ℕ). cond (ltb k lengths_tried) (spelt_tables w) (worked_out h)) (text_is k first_set masked_first)
      ∙ ap (λ (m : ℕ). cond (ltb m lengths_tried) (spelt m) (worked_out h)) (length_is asked)
