-- Laws of sides as lists of tokens: a part of one, and what copying and trimming do. Follows from the definitions by
-- induction on the side.
use Prim.Native.Nat.{ℕ, suc, ◌+◌, ◌-◌, ◌≤◌, ◌<◌, min}
use native.Mathlib.Omega.{arith}
use mathlib.Core.Path.{◌≡◌, refl, sym, ap, ◌∙◌}
use mathlib.Core.Bool.{Bool, true, false, cond, ◌&&◌}
use mathlib.Core.List.{List, [], ◌∷◌, ◌++◌}
use lib.Dec.{eqb, leb}
use lib.ListN.{length, take, drop, replicate, length-append, length-drop, length-replicate}
use lib.Seq.{take_all, length-take-le}
use Rattle.std.specs.List.{zip, prefix_len}
use Rattle.paper.specs.Numbers.{longest_side}
use Rattle.paper.proofs.base.Tests.{by_bool, cond_by, leb_true, leb_false}
use Rattle.base_codes.specs.Inner.{no_token, is_char, padded}
use Rattle.base_codes.specs.InFront.{InFront}
use Rattle.base_codes.proofs.InFront.{in_front_padded}
use Rattle.search_trim.specs.Trimming.{alike_in_front}

-- the part of a list from an index on, and up to one
pub rest_part : (n : ℕ) (l : List ℕ) → take (length l - n) (drop n l) ≡ drop n l
rest_part n l = take_all (length l - n) (drop n l) (rw length-drop (omega arith))

pub part_length : (n : ℕ) (l : List ℕ) → n ≤ length l → n ≡ length (take n l)
part_length n l h = sym (length-take-le n l h)

-- so many tokens as have room, copied into 48 bytes of no token
pub copied_padded : (side : List ℕ) (n : ℕ) (copied : List ℕ) → n ≡ min (length side) longest_side → copied ≡ take n side
    → copied ++ drop n (replicate longest_side no_token) ≡ padded (take longest_side side)
copied_padded side n copied e is =
    let no_tokens = replicate longest_side no_token in
    let part : take n side ≡ take longest_side side = by_bool (leb (length side) longest_side)
    (λ (k : leb (length side) longest_side ≡ true).
    let few : length side ≤ longest_side = leb_true (length side) longest_side k in
    take_all n side (omega arith) ∙ sym (take_all longest_side side few))
    (λ (k : leb (length side) longest_side ≡ false).
    let many : longest_side < length side = leb_false (length side) longest_side k in
    let all : n ≡ longest_side = omega arith in
    ap (λ (m : ℕ). take m side) all) in
    let long : n ≡ length (take longest_side side) = sym (length-take-le n side (omega arith)) ∙ ap length part in
    let written : InFront no_tokens (copied ++ drop n no_tokens) n (take longest_side side) =
    record {
      bytes = rw (is, part, ← long);
      many = long;
      same_length =
          omega (arith, length-append copied (drop n no_tokens), length-drop n no_tokens, length-replicate longest_side no_token, ap length is, ap length part, long);
    } in
    in_front_padded written refl

-- Trimming: what is counted are the pairs in front in which both are the same character.
abbrev pub alike : ℕ × ℕ → Bool
alike p = is_char p.0 && eqb p.0 p.1

pub alike_pairs : (l r : List ℕ) → prefix_len alike (zip l r) ≡ alike_in_front l r
alike_pairs [] r = refl
alike_pairs (a ∷ l) [] = refl
alike_pairs (a ∷ l) (b ∷ r) =
    let e : 1 + prefix_len alike (zip l r) ≡ suc (alike_in_front l r) = omega (arith, alike_pairs l r) in
    ap (λ (n : ℕ). cond (is_char a && eqb a b) n 0) e

-- no more than either side has
pub alike_within : (l r : List ℕ) → (alike_in_front l r ≤ length l) × (alike_in_front l r ≤ length r)
alike_within [] r = (omega arith, omega arith)
alike_within (a ∷ l) [] = (omega arith, omega arith)
alike_within (a ∷ l) (b ∷ r) =
    cond_by (λ (n : ℕ). (n ≤ suc (length l)) × (n ≤ suc (length r))) (is_char a && eqb a b)
    (λ p. let h = alike_within l r in (omega (arith, h.0), omega (arith, h.1)))
    (λ p. (omega arith, omega arith))
