-- The situation that a struct holds is short; the struct that is made for a short one holds it. Follows from the laws of a side's tokens.
use native.Mathlib.Omega.{arith}
use mathlib.Core.Path.{◌≡◌}
use lib.ListN.{length}
use Rattle.paper.specs.Numbers.{set_fields, longest_side}
use Rattle.base_codes.specs.Coded.{Coded, denoted, as_struct, Short}
use Rattle.base_codes.specs.declared.Situation.{Situation}
use Rattle.base_codes.proofs.Tokens.{tokens_length, all_tokens, tokens_padded}

-- what a struct holds is short; and its arrays have these lengths
pub short_denoted : (s : Situation) → length s.left ≡ longest_side → length s.right ≡ longest_side → length s.sets ≡ set_fields → Short (denoted s)
short_denoted s l r n =
    record {
      left = omega (arith, tokens_length s.left);
      right = omega (arith, tokens_length s.right);
      sets = n;
      left_tokens = all_tokens s.left;
      right_tokens = all_tokens s.right;
    }

-- what the struct made for a short situation holds
pub denoted_laid : (k : Coded) → Short k → denoted (as_struct k) ≡ k
denoted_laid k h =
    let l = tokens_padded k.left h.left_tokens in
    let r = tokens_padded k.right h.right_tokens in
    λ i. record { left = l i; right = r i; sets = k.sets }
