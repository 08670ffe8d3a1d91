-- Two sides gone through place by place.
--   next_said, next_behind                    : the token at a place, and what is left
--   alike_on, unlike, left_field, right_field : what two tokens say of the sides that begin with them, by their codes
--   told_there, alike_there, alike_whole      : what the bytes at a place say, and what is said behind all places
--   none_behind, character_first, field_first : what the last byte says of a side's end
--   said_reverse                              : a side from behind
-- Follows from the laws of lists and from the tests of the definitions.
use Prim.Native.Nat.{ℕ, ◌+◌, ◌-◌, ◌≤◌, ◌<◌}
use native.Mathlib.Numerals.{add-one}
use native.Mathlib.Omega.{arith}
use mathlib.Core.Path.{◌≡◌, refl, sym, ap, ◌∙◌}
use mathlib.Core.Bool.{Bool, true, false, not, ◌||◌}
use Rattle.std.proofs.Common.{Some, None}
use Rattle.std.proofs.lemmas.Option.{none-some, same_Some}
use Rattle.std.proofs.lemmas.List.{get_or_read}
use Rattle.std.proofs.lemmas.Slice.Zip.{length-zip, get_or-zip}
use Rattle.std.specs.List.{zip}
use Rattle.fronts_sides.specs.Places.{place_told}
use mathlib.Core.List.{List, [], ◌∷◌, ◌++◌, map, reverse, reverse-append}
use lib.Dec.{leb, ltb, eqb}
use lib.ListN.{length, take, drop, get_or, drop_of_length-le}
use lib.Seq.{drop-cons, take-suc, take-length}
use Rattle.paper.specs.Numbers.{most_characters, field_token}
use Rattle.paper.specs.Alphabet.{Edition, code, codes}
use Rattle.paper.specs.Equation.{chr, fld, Side}
use Rattle.paper.specs.Sheet.{token}
use Rattle.paper.proofs.base.Tests.{by_bool, cond_true, cond_false, lt_ltb, le_ltb, ltb_true, ltb_false, leb_true, leb_false, eq_eqb, neq_eqb, eqb_true, eqb_false}
use Rattle.paper.proofs.base.Lists.{map_append}
use Rattle.paper_fronts.specs.FixedFronts.{fronts_differ, begins_solid, side_said}

-- a code's token
token_character : (c : ℕ) → c < most_characters → token c ≡ chr c
token_character c h = cond_true (ltb c most_characters) (chr c) (fld (c - field_token)) (lt_ltb c most_characters h)

token_field : (c : ℕ) → most_characters ≤ c → token c ≡ fld (c - field_token)
token_field c h = cond_false (ltb c most_characters) (chr c) (fld (c - field_token)) (le_ltb c most_characters h)

-- the bytes of a side in an edition
module _ (e : Edition) (bytes : List ℕ) where
  pub next_said : (i c : ℕ) → i < length bytes → c ≡ code e (get_or bytes i 0)
      → side_said e (drop i bytes) ≡ token c ∷ side_said e (drop (i + 1) bytes)
  next_said i c h k = rw (k, add-one i, drop-cons bytes i 0 h)

  last_said : (i c : ℕ) → i < length bytes → c ≡ code e (get_or bytes i 0)
      → reverse (side_said e (take (i + 1) bytes)) ≡ token c ∷ reverse (side_said e (take i bytes))
  last_said i c h k =
      let one = get_or bytes i 0 in
      let before = take i bytes in
      rw (k, add-one i, take-suc bytes i 0 h)
      (ap (λ (l : List ℕ). reverse (map token l)) (map_append (code e) before (one ∷ []))
      ∙ ap reverse (map_append token (codes e before) (code e one ∷ []))
      ∙ reverse-append (side_said e before) (token (code e one) ∷ []))

  pub next_behind : (p c : ℕ) → 0 < p → p ≤ length bytes → c ≡ code e (get_or bytes (p - 1) 0)
      → reverse (side_said e (take p bytes)) ≡ token c ∷ reverse (side_said e (take (p - 1) bytes))
  next_behind p c h l k =
      let one_more : p ≡ p - 1 + 1 = omega arith in
      ap (λ (n : ℕ). reverse (side_said e (take n bytes))) one_more ∙ last_said (p - 1) c (omega arith) k

  pub whole_behind : reverse (side_said e bytes) ≡ reverse (side_said e (take (length bytes) bytes))
  whole_behind = ap (λ (l : List ℕ). reverse (side_said e l)) (sym (take-length bytes))

  pub none_behind : (p : ℕ) → p ≡ 0 → reverse (side_said e (take p bytes)) ≡ []
  none_behind p h = rw h

  pub none_left : (i : ℕ) → length bytes ≤ i → side_said e (drop i bytes) ≡ []
  none_left i h = ap (side_said e) (drop_of_length-le bytes {i = i} h)

-- sides of which nothing is left
pub left_ended : (left right : Side) → left ≡ [] → fronts_differ left right ≡ false
left_ended left right e = rw e

pub right_ended : (left right : Side) → right ≡ [] → fronts_differ left right ≡ false
right_ended left right e = rw e (ended left)
  where
    ended : (side : Side) → fronts_differ side [] ≡ false
    ended [] = refl
    ended (chr c ∷ side) = refl
    ended (fld f ∷ side) = refl

-- sides that begin with the tokens of the codes a and b
module _ (a b : ℕ) {left right l r : Side} (p : left ≡ token a ∷ l) (q : right ≡ token b ∷ r) where
  pub left_field : most_characters ≤ a → fronts_differ left right ≡ false
  left_field h = rw (p, token_field a h)

  module _ (h : a < most_characters) where
    pub right_field : most_characters ≤ b → fronts_differ left right ≡ false
    right_field k = rw (p, q, token_character a h, token_field b k)

    module _ (k : b < most_characters) where
      heads : fronts_differ left right ≡ (not (eqb a b) || fronts_differ l r)
      heads = rw (p, q, token_character a h, token_character b k)

      pub unlike : (a ≡ b → ⊥) → fronts_differ left right ≡ true
      unlike n = heads ∙ rw (neq_eqb a b n)

      pub alike_on : a ≡ b → fronts_differ left right ≡ fronts_differ l r
      alike_on e = heads ∙ rw (eq_eqb a b e)

-- a side that begins with the token of the code c
module _ (x c : ℕ) {side l : Side} (p : side ≡ token c ∷ l) where
  pub field_first : most_characters ≤ c → begins_solid x side ≡ false
  field_first h = rw (p, token_field c h)

  pub character_first : c < most_characters → begins_solid x side ≡ not (eqb c x)
  character_first h = rw (p, token_character c h)

-- so far the sides are alike: whether they differ is told by what is left of both
pub record Alike (e : Edition) (left right : List ℕ) (i : ℕ) : Type 0 where
  pub rest : fronts_differ (side_said e left) (side_said e right) ≡ fronts_differ (side_said e (drop i left)) (side_said e (drop i right))

-- the bytes at the place where both sides are gone through at once
pub bytes_at : (left right : List ℕ) (i a b : ℕ) → (i < length (zip left right)) × ((a, b) ≡ get_or (zip left right) i (a, b))
    → (i < length left) × (i < length right) × (a ≡ get_or left i 0) × (b ≡ get_or right i 0)
bytes_at left right i a b h =
    let l : i < length left = omega (arith, h.0, length-zip left right) in
    let r : i < length right = omega (arith, h.0, length-zip left right) in
    let both : (a, b) ≡ (get_or left i a, get_or right i b) = h.1 ∙ get_or-zip left right i (a, b) l r in
    (l, r, get_or_read left i a l (ap (λ (p : ℕ × ℕ). p.0) both) 0, get_or_read right i b r (ap (λ (p : ℕ × ℕ). p.1) both) 0)

module _ (e : Edition) (left right : List ℕ) (i a b : ℕ) (s : Alike e left right i) (t : (i < length left) × (i < length right) × (a ≡ get_or left i 0) × (b ≡ get_or right i 0)) where
  abbrev x : ℕ
  x = code e a

  abbrev y : ℕ
  y = code e b

  at_left : side_said e (drop i left) ≡ token x ∷ side_said e (drop (i + 1) left)
  at_left = next_said e left i x t.0 (ap (code e) t.2)

  at_right : side_said e (drop i right) ≡ token y ∷ side_said e (drop (i + 1) right)
  at_right = next_said e right i y t.1 (ap (code e) t.3)

  pub told_there : (d : Bool) → place_told x y ≡ Some d → d ≡ fronts_differ (side_said e left) (side_said e right)
  told_there d h =
      by_bool (ltb x most_characters)
      (λ p. by_bool (ltb y most_characters)
      (λ q. by_bool (eqb x y)
      (λ z. absurd (none-some d (rw (p, q, z) at h)))
      (λ z. let same : true ≡ d = same_Some true d (rw (p, q, z) at h) in
      sym same ∙ sym (s.rest ∙ unlike x y at_left at_right (ltb_true x most_characters p) (ltb_true y most_characters q) (eqb_false x y z))))
      (λ q. let same : false ≡ d = same_Some false d (rw (p, q) at h) in
      sym same ∙ sym (s.rest ∙ right_field x y at_left at_right (ltb_true x most_characters p) (ltb_false y most_characters q))))
      (λ p. let same : false ≡ d = same_Some false d (rw p at h) in
      sym same ∙ sym (s.rest ∙ left_field x y at_left at_right (ltb_false x most_characters p)))

  pub alike_there : place_told x y ≡ None → Alike e left right (i + 1)
  alike_there h =
      by_bool (ltb x most_characters)
      (λ p. by_bool (ltb y most_characters)
      (λ q. by_bool (eqb x y)
      (λ z. record { rest = s.rest ∙ alike_on x y at_left at_right (ltb_true x most_characters p) (ltb_true y most_characters q) (eqb_true x y z) })
      (λ z. absurd (none-some true (sym (rw (p, q, z) at h)))))
      (λ q. absurd (none-some false (sym (rw (p, q) at h)))))
      (λ p. absurd (none-some false (sym (rw p at h))))

pub alike_whole : (e : Edition) (left right : List ℕ) (i : ℕ) → Alike e left right i → i ≡ length (zip left right)
    → false ≡ fronts_differ (side_said e left) (side_said e right)
alike_whole e left right i s h =
    by_bool (leb (length left) i)
    (λ p. sym (s.rest ∙ left_ended (side_said e (drop i left)) (side_said e (drop i right)) (none_left e left i (leb_true (length left) i p))))
    (λ p. let over = leb_false (length left) i p in
    let short : length right ≤ i = omega (arith, h, length-zip left right) in
    sym (s.rest ∙ right_ended (side_said e (drop i left)) (side_said e (drop i right)) (none_left e right i short)))

-- a side from behind is that of its bytes from behind
pub said_reverse : (e : Edition) (bytes : List ℕ) → reverse (side_said e bytes) ≡ side_said e (reverse bytes)
said_reverse e [] = refl
said_reverse e (b ∷ bytes) =
    reverse-append (token (code e b) ∷ []) (side_said e bytes)
    ∙ ap (λ (l : Side). l ++ (token (code e b) ∷ [])) (said_reverse e bytes)
    ∙ sym (map_append token (codes e (reverse bytes)) (code e b ∷ []))
    ∙ ap (map token) (sym (map_append (code e) (reverse bytes) (b ∷ [])))
    ∙ ap (side_said e) (sym (reverse-append (b ∷ []) bytes))
