-- The sides of a sheet by inner codes: all codes of a side in its room; the inner code of a token is its code; how many tokens lead a side.
-- Follows from the laws of `take`, from what a token is, and by induction on the side.
use Prim.Native.Nat.{ℕ, ◌+◌, ◌-◌, ◌≤◌, ◌<◌}
use native.Mathlib.Omega.{arith}
use mathlib.Core.Path.{◌≡◌, refl}
use mathlib.Core.Bool.{Bool, true, false, ◌&&◌}
use mathlib.Core.List.{List, [], ◌∷◌, map}
use lib.Dec.{leb, ltb}
use lib.ListN.{length, length-map}
use lib.Seq.{take_all}
use Rattle.paper.specs.Lists.{all, leading}
use Rattle.paper.specs.Numbers.{most_characters, fields, field_token, longest_side}
use Rattle.paper.specs.Alphabet.{Edition, code, codes}
use Rattle.paper.specs.Sheet.{bytes_left, is_token, token}
use Rattle.paper.proofs.base.Tests.{by_bool, and_left, and_right, leb_true, ltb_false, lt_ltb}
use Rattle.paper.proofs.base.Lists.{cons_eq}
use Rattle.base_codes.specs.Inner.{token_code, side_code, padded}
use Rattle.read_codes.specs.Laid.{laid_codes}

-- the codes of a side, laid in its room
pub side_laid : (e : Edition) (side : List ℕ) → length side ≤ longest_side → laid_codes longest_side e side ≡ padded (codes e side)
unfolding laid_codes
side_laid e side h =
    let l = length-map side (code e) in
    rw (take_all longest_side (codes e side) (omega (arith, l)), l)

-- the inner code of a token is its code: a token that is no character is one of a field's
inner_code : (c : ℕ) → is_token c ≡ true → token_code (token c) ≡ c
inner_code c e =
    by_bool (ltb c most_characters) (λ h. rw h)
    (λ h.
    let field : leb field_token c && ltb c (field_token + fields) ≡ true = rw h at e in
    let low = leb_true field_token c (and_left (leb field_token c) (ltb c (field_token + fields)) field) in
    let same : field_token + (c - field_token) ≡ c = omega arith in
    rw h same)

-- so a side of tokens is its codes
pub codes_of_tokens : (l : List ℕ) → all is_token l ≡ true → side_code (map token l) ≡ l
codes_of_tokens [] e = refl
codes_of_tokens (c ∷ l) e =
    cons_eq (inner_code c (and_left (is_token c) (all is_token l) e)) (codes_of_tokens l (and_right (is_token c) (all is_token l) e))

-- fewer lead than there are: not all pass the test
pub fewer_lead : (p : ℕ → Bool) (l : List ℕ) → leading p l < length l → all p l ≡ false
fewer_lead p [] h = absurd (omega arith)
fewer_lead p (x ∷ l) h =
    by_bool (p x) (λ e. let k = rw e at h in rw e (fewer_lead p l (omega (arith, k)))) (λ e. rw e)

-- as many lead as there are: all do
pub all_lead : (p : ℕ → Bool) (l : List ℕ) → length l ≤ leading p l → all p l ≡ true
all_lead p [] h = refl
all_lead p (x ∷ l) h =
    by_bool (p x) (λ e. let k = rw e at h in rw e (all_lead p l (omega (arith, k)))) (λ e. let k = rw e at h in absurd (omega (arith, k)))

-- two bytes are left
pub two_left : (s : List ℕ) (at : ℕ) → ltb (bytes_left s at) 2 ≡ false → at + 2 ≤ length s
two_left s at e = omega (arith, ltb_false (bytes_left s at) 2 e)

-- none are behind the end
pub none_left : (s : List ℕ) (at : ℕ) → length s < at → ltb (bytes_left s at) 2 ≡ true
none_left s at h = lt_ltb (bytes_left s at) 2 (omega arith)
