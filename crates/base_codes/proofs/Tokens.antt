-- Laws of a side's tokens: they are the front part of its bytes, their front is its first byte, none of them is 255, and those of a
-- padded side are that side. Follows from the definitions by induction on the side.
use Prim.Native.Nat.{ℕ, zero, suc, ◌+◌, ◌-◌, ◌≤◌, ◌<◌}
use native.Mathlib.Numerals.{add-one}
use native.Mathlib.Omega.{arith}
use mathlib.Core.Path.{◌≡◌, refl, sym}
use mathlib.Core.Bool.{Bool, true, false, cond, not}
use mathlib.Core.List.{List, [], ◌∷◌, ◌++◌}
use lib.Dec.{eqb, ltb}
use Rattle.std.proofs.Common.{Option, Some, None, unwrap_or}
use Rattle.std.specs.List.{prefix_len}
use lib.ListN.{length, get_or, take, drop, replicate, drop_of_length-le}
use lib.Seq.{drop-cons}
use Rattle.paper.specs.Lists.{all}
use Rattle.paper.specs.Numbers.{longest_side}
use Rattle.paper.proofs.base.Lists.{cons_eq}
use Rattle.paper.proofs.base.Tests.{cond_by, both_true, and_left, and_right, ltb_false, not_is_true, false_not, eqb_true}
use Rattle.base_codes.specs.Inner.{no_token, is_code, front, tokens, padded}
use Rattle.base_codes.specs.Coded.{none}

-- as many bytes as there are tokens
pub tokens_part : (l : List ℕ) → take (length (tokens l)) l ≡ tokens l
tokens_part [] = refl
tokens_part (b ∷ l) =
    cond_by (λ (t : List ℕ). take (length t) (b ∷ l) ≡ t) (eqb b no_token) (λ _. refl) (λ _. cons_eq refl (tokens_part l))

pub tokens_length : (l : List ℕ) → length (tokens l) ≤ length l
tokens_length [] = omega arith
tokens_length (b ∷ l) =
    cond_by (λ (t : List ℕ). length t ≤ suc (length l)) (eqb b no_token)
    (λ _. omega arith)
    (λ _. omega (arith, tokens_length l))

-- the front of the tokens is the first byte
pub tokens_front : (l : List ℕ) (d : ℕ) → 0 < length l → front (tokens l) ≡ get_or l 0 d
tokens_front [] d h = absurd (omega arith)
tokens_front (b ∷ l) d h =
    cond_by (λ (t : List ℕ). front t ≡ b) (eqb b no_token) (λ e. sym (eqb_true b no_token e)) (λ _. refl)

-- there is no token where the first byte is none
pub none_tokens : (l : List ℕ) → 0 < length l → none (tokens l) ≡ eqb (get_or l 0 0) no_token
none_tokens [] h = absurd (omega arith)
none_tokens (b ∷ l) h =
    cond_by (λ (t : List ℕ). none t ≡ eqb b no_token) (eqb b no_token) (λ e. sym e) (λ e. sym e)

pub all_tokens : (l : List ℕ) → all is_code (tokens l) ≡ true
all_tokens [] = refl
all_tokens (b ∷ l) =
    cond_by (λ (t : List ℕ). all is_code t ≡ true) (eqb b no_token) (λ _. refl) (λ e. both_true (false_not e) (all_tokens l))

-- the tokens of a padded side
tokens_behind : (n : ℕ) → tokens (replicate n no_token) ≡ []
tokens_behind zero = refl
tokens_behind (suc n) = refl

tokens_before : (n : ℕ) (l : List ℕ) → all is_code l ≡ true → tokens (l ++ replicate n no_token) ≡ l
tokens_before n [] h = tokens_behind n
tokens_before n (b ∷ l) h =
    let e : eqb b no_token ≡ false = not_is_true (and_left (is_code b) (all is_code l) h) in
    rw (e, tokens_before n l (and_right (is_code b) (all is_code l) h))

pub tokens_padded : (l : List ℕ) → all is_code l ≡ true → tokens (padded l) ≡ l
tokens_padded l h = tokens_before (longest_side - length l) l h

-- how many there are: as many as stand before the first byte that is none
pub tokens_count : (l : List ℕ) → length (tokens l) ≡ prefix_len is_code l
tokens_count [] = refl
tokens_count (b ∷ l) =
    cond_by (λ (t : List ℕ). length t ≡ cond (not (eqb b no_token)) (1 + prefix_len is_code l) 0) (eqb b no_token)
    (λ e. rw e refl)
    (λ e. rw e (omega (arith, tokens_count l)))

-- a place at most the last, told as one before it or as none
pub place_or_last : (n last : ℕ) → n ≤ last → unwrap_or (cond (ltb n last) (Some n) None) last ≡ n
place_or_last n last h =
    cond_by (λ (o : Option ℕ). unwrap_or o last ≡ n) (ltb n last)
    (λ _. refl)
    (λ e. let k : last ≤ n = ltb_false n last e in omega arith)

-- The tokens of a side, from a byte on: that byte and those behind it, or none.
pub tokens_more : (l : List ℕ) (n : ℕ) → n < length l → eqb (get_or l n 0) no_token ≡ false → length (tokens (drop n l)) ≡ suc (length (tokens (drop (n + 1) l)))
tokens_more l n h e = rw (add-one, drop-cons l n 0 h, e)

pub tokens_end : (l : List ℕ) (n : ℕ) → n < length l → eqb (get_or l n 0) no_token ≡ true → length (tokens (drop n l)) ≡ 0
tokens_end l n h e = rw (drop-cons l n 0 h, e)

pub tokens_none : (l : List ℕ) (n : ℕ) → length l ≤ n → length (tokens (drop n l)) ≡ 0
tokens_none l n h = rw (drop_of_length-le l h)

-- the tokens of what is left of a side
pub all_drop : (p : ℕ → Bool) (n : ℕ) (l : List ℕ) → all p l ≡ true → all p (drop n l) ≡ true
all_drop p zero l h = h
all_drop p (suc n) [] h = h
all_drop p (suc n) (x ∷ l) h = all_drop p n l (and_right (p x) (all p l) h)
