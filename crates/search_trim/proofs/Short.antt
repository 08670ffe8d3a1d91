-- The question of sides that a struct holds is short. Follows from the definition.
use Prim.Native.Nat.{ℕ, ◌≤◌}
use native.Mathlib.Omega.{arith}
use mathlib.Core.Path.{◌≡◌, refl}
use mathlib.Core.Bool.{true}
use mathlib.Core.List.{List}
use lib.ListN.{length, length-drop}
use Rattle.paper.specs.Lists.{all}
use Rattle.paper.specs.Numbers.{longest_side}
use Rattle.base_codes.specs.Inner.{is_code}
use Rattle.base_codes.specs.Coded.{Short}
use Rattle.base_codes.proofs.Tokens.{all_drop}
use Rattle.search_trim.specs.Trimming.{alike_in_front, first_masks, question_coded}

pub question_short : (l r : List ℕ) → length l ≤ longest_side → length r ≤ longest_side → all is_code l ≡ true → all is_code r ≡ true → Short (question_coded l r)
unfolding question_coded first_masks
question_short l r h k p q =
    let n = alike_in_front l r in
    record {
      left = rw length-drop (omega arith);
      right = rw length-drop (omega arith);
      sets = refl;
      left_tokens = all_drop is_code n l p;
      right_tokens = all_drop is_code n r q;
    }
