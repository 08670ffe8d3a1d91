-- A token put behind a side's last one. Follows from the laws of lists written into the front of a buffer.
--   put_behind, no_room_behind : the side with the token, where there is room and where there is none
use Prim.Native.Nat.{ℕ, ◌≤◌, ◌<◌}
use native.Mathlib.Omega.{arith}
use mathlib.Core.Path.{◌≡◌, refl, sym, ap, ◌∙◌}
use mathlib.Core.List.{List, [], ◌∷◌, ◌++◌}
use lib.ListN.{length, take, drop, set, replicate, length-append, length-drop, length-replicate}
use lib.Seq.{take_all, take-append_seam}
use Rattle.paper.specs.Numbers.{longest_side}
use Rattle.base_codes.specs.Inner.{no_token, tokens, padded}
use Rattle.base_codes.specs.InFront.{InFront}
use Rattle.base_codes.proofs.InFront.{in_front_more, in_front_padded}
use Rattle.search_hidden.specs.Behind.{side_with}

module _ (side : List ℕ) (n token : ℕ) (room : n ≤ longest_side) (many : n ≡ length (tokens side)) (part : take n side ≡ tokens side)
    (copied : List ℕ) (is : copied ≡ take n side) where
  abbrev no_tokens : List ℕ
  no_tokens = replicate longest_side no_token

  in_front : InFront no_tokens (copied ++ drop n no_tokens) n (tokens side)
  in_front =
      record {
        bytes = rw (is, part, ← many);
        many = many;
        same_length =
            omega (arith, length-append copied (drop n no_tokens), length-drop n no_tokens, length-replicate longest_side no_token, ap length is, ap length part, many);
      }

  pub put_behind : n < longest_side → set (copied ++ drop n no_tokens) n token ≡ side_with token side
  put_behind h =
      in_front_padded (in_front_more in_front token (omega (arith, length-replicate longest_side no_token))) refl
      ∙ ap padded (sym (take_all longest_side (tokens side ++ (token ∷ [])) (omega (arith, many, length-append (tokens side) (token ∷ [])))))

  pub no_room_behind : n ≡ longest_side → copied ++ drop n no_tokens ≡ side_with token side
  no_room_behind h =
      let full : length (tokens side) ≡ longest_side = sym many ∙ h in
      in_front_padded in_front refl
      ∙ ap padded (sym (ap (λ (k : ℕ). take k (tokens side ++ (token ∷ []))) (sym full) ∙ take-append_seam (tokens side) (token ∷ [])))
