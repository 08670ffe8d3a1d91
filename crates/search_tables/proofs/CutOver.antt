-- Tables of what each field may hold, cut to some of n characters:
--   mask_held : the mask of a character in a field's row
--   cut_by    : of marks that are a test's below n, each row has the masks of the characters below n that pass it, and no place takes another
--   cut_over  : so for marks that are a test's everywhere
-- Follows from the laws of lists by number.
use Prim.Native.Nat.{ℕ, ◌<◌}
use mathlib.Core.Path.{◌≡◌, ap, ap₂, ◌∙◌}
use mathlib.Core.Bool.{Bool, false, cond, ◌&&◌}
use mathlib.Core.List.{List, [], map}
use lib.Dec.{ltb}
use lib.ListN.{get_or}
use Rattle.paper.specs.Lists.{upto}
use Rattle.paper.specs.Numbers.{most_characters, set_fields}
use Rattle.paper.specs.Pattern.{Held}
use Rattle.paper.proofs.base.Tests.{by_bool, ltb_true}
use Rattle.paper.proofs.base.Listed.{get_or_map_upto}
use Rattle.base_places.specs.Masks.{table, taking_mask, taking_masks}
use Rattle.base_places.proofs.Masks.{taking_at}
use Rattle.search_tables.specs.Cut.{listed_by, cut_row, cut_coded}
use Rattle.search_tables.proofs.Listed.{get_or_listed, listed_same}

module _ (held : ℕ → Held) where
  abbrev rows : List (List ℕ)
  rows = map (λ (f : ℕ). taking_masks (held f)) (upto set_fields)

  pub mask_held : (f c : ℕ) → f < set_fields → c < most_characters → get_or (get_or rows f []) c 0 ≡ taking_mask (held f) c
  mask_held f c h k =
      ap (λ (row : List ℕ). get_or row c 0) (get_or_map_upto (λ (g : ℕ). taking_masks (held g)) [] set_fields f h) ∙ taking_at (held f) c k

  module _ (n : ℕ) (among : ℕ → Bool) where
    -- what the test lets through of a field's row
    abbrev over : ℕ → ℕ → ℕ
    over f c = cond (ltb c n && among c) (taking_mask (held f) c) 0

    module _ (marks : List Bool) (same : (c : ℕ) → c < n → c < most_characters → get_or marks c false ≡ among c) where
      below : (c : ℕ) → c < most_characters → ltb c n && get_or marks c false ≡ (ltb c n && among c)
      below c k =
          by_bool (ltb c n)
          (λ (e : ltb c n ≡ _). ap (λ (b : Bool). ltb c n && b) (same c (ltb_true c n e) k))
          (λ (e : ltb c n ≡ _). rw e)

      row_cut : (f : ℕ) → f < set_fields → cut_row n marks (get_or rows f []) ≡ table (over f) most_characters
      unfolding cut_row table listed_by
      row_cut f h =
          listed_same 0 (over f) most_characters
          (λ (c : ℕ). cond (ltb c n && get_or marks c false) (get_or (get_or rows f []) c 0) 0)
          (λ c k. ap₂ (λ (b : Bool) (m : ℕ). cond b m 0) (below c k) (mask_held f c h k))

      pub cut_by : cut_coded n rows marks ≡ map (λ (f : ℕ). table (over f) most_characters) (upto set_fields)
      unfolding cut_coded listed_by
      cut_by =
          listed_same [] (λ (f : ℕ). table (over f) most_characters) set_fields
          (λ (f : ℕ). cut_row n marks (get_or rows f [])) row_cut

    pub cut_over : cut_coded n rows (listed_by among most_characters)
        ≡ map (λ (f : ℕ). table (λ (c : ℕ). cond (ltb c n && among c) (taking_mask (held f) c) 0) most_characters) (upto set_fields)
    cut_over = cut_by (listed_by among most_characters) (λ c h k. get_or_listed among most_characters false c k)
