-- Trimming by inner codes, and the trimmed question.
use Rattle.std.specs.Prelude.{ℕ, zero, suc, ◌+◌, cond, ◌&&◌, List, [], ◌∷◌, ◌++◌, map, eqb, length, take, drop}
use Rattle.paper.specs.Lists.{upto, member}
use Rattle.paper.specs.Numbers.{set_fields, longest_side}
use Rattle.base_codes.specs.Inner.{field_code, is_char, padded}
use Rattle.base_codes.specs.Coded.{Coded}
use Rattle.search_trim.specs.declared.Trimmed.{Trimmed}

-- how many equal characters stand in both fronts
abbrev pub alike_in_front : List ℕ → List ℕ → ℕ
alike_in_front [] r = zero
alike_in_front (a ∷ l) [] = zero
alike_in_front (a ∷ l) (b ∷ r) = let n = alike_in_front l r in cond (is_char a && eqb a b) (suc n) zero

-- the sides behind their equal characters in front, each in its 48 bytes as far as it has room, and their lengths
abbrev pub trimmed_sides : List ℕ → List ℕ → Trimmed
trimmed_sides l r =
    record {
      left = padded (take longest_side l);
      right = padded (take longest_side r);
      left_len = length l;
      right_len = length r;
    }

unfoldable pub trimmed_of : List ℕ → List ℕ → Trimmed
trimmed_of l r = trimmed_sides (drop (alike_in_front l r) l) (drop (alike_in_front l r) r)

-- at first a field's place set holds only the start: the mask 1 for each field that stands in either side
unfoldable pub first_mask : List ℕ → ℕ → ℕ
first_mask side f = cond (member (field_code + f) side) 1 0

unfoldable pub first_masks : List ℕ → List ℕ
first_masks side = map (first_mask side) (upto set_fields)

-- "The trimmed question": the sides without their equal characters in front, and the first place sets
unfoldable pub question_coded : List ℕ → List ℕ → Coded
question_coded l r =
    record {
      left = drop (alike_in_front l r) l;
      right = drop (alike_in_front l r) r;
      sets = first_masks (l ++ r);
    }
