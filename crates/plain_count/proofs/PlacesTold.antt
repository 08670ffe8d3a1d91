-- How many places a field has, by what is worked out of it, is how many it has.
--   places_told : places_by n (taking_masks h) ≡ places_of h, of what a field of a good question of n characters may hold
-- Every leaf of a good pattern takes some character and no other place does: by induction on the pattern. So the mask of those that do is
-- 2 + 4 + .. + 2 ^ leaves. Of a field without a pattern every place takes every character.
use Prim.Native.Nat.{ℕ, zero, suc, ◌+◌, ◌*◌, ◌/◌, ◌%◌, ◌^◌, ◌≤◌, ◌<◌}
use native.Mathlib.Nat.{div-one, pow-suc}
use native.Mathlib.Omega.{arith}
use mathlib.Core.Path.{◌≡◌, refl, sym, ap, ap₂, ◌∙◌}
use mathlib.Core.Bool.{Bool, true, false, ◌||◌, or-false, or_assoc}
use mathlib.Core.List.{List, [], ◌∷◌, map}
use lib.Count.{count_trailing_zeros, under}
use lib.Dec.{eqb}
use lib.ListN.{take}
use Rattle.paper.specs.Lists.{from, upto, any, keep}
use Rattle.paper.specs.Numbers.{most_characters, most_leaves}
use Rattle.paper.specs.Pattern.{Pattern, leaf, empty, then, either, many, Held, some_text, pattern}
use Rattle.paper.specs.Places.{leaves, leaf_takes}
use Rattle.paper.specs.Taken.{leaves_take}
use Rattle.paper.proofs.base.Tests.{both_true, left_true, right_true, not_true, eq_eqb, neq_eqb}
use Rattle.paper.proofs.base.Lists.{cons_eq, any_true, mem_any, upto_mem}
use Rattle.paper_laws.proofs.places.Parts.{Within, one_part, takes_within}
use Rattle.paper_laws.proofs.sheets.Asked.{GoodHeld}
use Rattle.paper_plain.specs.Standing.{places_of}
use Rattle.base_places.specs.Masks.{places, mask, mask_of, in_mask, table, takes_at, taking_mask, taking_masks}
use Rattle.base_places.proofs.MaskOf.{in_mask_of, mask_of_same, mask_of_or, mask_of_none}
use Rattle.plain_count.specs.StandingsCoded.{taken_too, places_in, places_by}

-- the places of t, and those that take some of these characters
taken_are : (h : Held) (l : List ℕ) (t : ℕ → Bool)
    → taken_too (mask_of t) (map (taking_mask h) l) ≡ mask_of (λ (q : ℕ). t q || any (λ (c : ℕ). takes_at h q c) l)
unfolding taking_mask
taken_are h [] t = mask_of_same t (λ (q : ℕ). t q || false) (λ q k. sym (or-false (t q)))
taken_are h (c ∷ l) t =
    ap (λ (m : ℕ). taken_too m (map (taking_mask h) l)) (mask_of_or t (λ (q : ℕ). takes_at h q c))
    ∙ taken_are h l (λ (q : ℕ). t q || takes_at h q c)
    ∙ mask_of_same (λ (q : ℕ). (t q || takes_at h q c) || any (λ (d : ℕ). takes_at h q d) l)
    (λ (q : ℕ). t q || (takes_at h q c || any (λ (d : ℕ). takes_at h q d) l))
    (λ q k. or_assoc (t q) (takes_at h q c) (any (λ (d : ℕ). takes_at h q d) l))

-- does the place take some character?
abbrev some_taken : ℕ → Held → ℕ → Bool
some_taken n h q = any (λ (c : ℕ). takes_at h q c) (upto n)

-- the first n of more
take_from : (f : ℕ → ℕ) (a n m : ℕ) → n ≤ m → take n (map f (from a m)) ≡ map f (from a n)
take_from f a zero m h = refl
take_from f a (suc n) zero h = absurd (omega arith)
take_from f a (suc n) (suc m) h = cons_eq refl (take_from f (suc a) n m (omega arith))

all_taken : (n : ℕ) → n ≤ most_characters → (h : Held) → taken_too 0 (take n (taking_masks h)) ≡ mask_of (some_taken n h)
unfolding taking_masks table
all_taken n most h =
    ap₂ taken_too (sym mask_of_none) (take_from (taking_mask h) 0 n most_characters most)
    ∙ taken_are h (upto n) (λ (q : ℕ). false)

-- every leaf takes some character
leaf_taken : (n : ℕ) (p : Pattern) (o q : ℕ) → leaves_take n p → Within o (leaves p) q → (c : ℕ) × (c < n) × (leaf_takes p o q c ≡ true)
leaf_taken n (leaf l) o q k h = (k.some, k.character k.some k.taken, both_true (eq_eqb o q (omega arith)) k.taken)
leaf_taken n empty o q k h = absurd (omega arith)
leaf_taken n (then a b) o q k h =
    one_part o (leaves a) (leaves b) q
    (λ m. let (c, l, t) = leaf_taken n a o q k.0 m in (c, l, left_true (leaf_takes a o q c) (leaf_takes b (o + leaves a) q c) t))
    (λ m. let (c, l, t) = leaf_taken n b (o + leaves a) q k.1 m in (c, l, right_true (leaf_takes a o q c) (leaf_takes b (o + leaves a) q c) t))
    h
leaf_taken n (either a b) o q k h =
    one_part o (leaves a) (leaves b) q
    (λ m. let (c, l, t) = leaf_taken n a o q k.0 m in (c, l, left_true (leaf_takes a o q c) (leaf_takes b (o + leaves a) q c) t))
    (λ m. let (c, l, t) = leaf_taken n b (o + leaves a) q k.1 m in (c, l, right_true (leaf_takes a o q c) (leaf_takes b (o + leaves a) q c) t))
    h
leaf_taken n (many a) o q k h = leaf_taken n a o q k h

-- a test that the n places from a on pass, and none behind them
keep_first : (t : ℕ → Bool) (a n k : ℕ) → n ≤ k → ((q : ℕ) → Within a n q → t q ≡ true) → ((q : ℕ) → a + n ≤ q → t q ≡ false)
    → keep t (from a k) ≡ from a n
keep_first t a zero zero h these none = refl
keep_first t a (suc n) zero h these none = absurd (omega arith)
keep_first t a zero (suc k) h these none =
    rw (none a (omega arith)) (keep_first t (suc a) zero k (omega arith) (λ q w. absurd (omega arith)) (λ q l. none q (omega arith)))
keep_first t a (suc n) (suc k) h these none =
    rw (these a (record { low = omega arith; high = omega arith }))
    (cons_eq refl (keep_first t (suc a) n k (omega arith) (λ q w. these q (record { low = omega arith; high = omega arith })) (λ q l. none q (omega arith))))

-- 2 ^ a and the powers behind it
mask_from : (a n : ℕ) → mask (from a n) + 2 ^ a ≡ 2 ^ (a + n)
mask_from a zero = let same : 2 ^ a ≡ 2 ^ (a + 0) = ap (λ (x : ℕ). 2 ^ x) (omega arith) in omega arith
mask_from a (suc n) =
    let more = mask_from (suc a) n in
    let twice = pow-suc 2 a in
    let same : 2 ^ (suc a + n) ≡ 2 ^ (a + suc n) = ap (λ (x : ℕ). 2 ^ x) (omega arith) in
    omega arith

zeros_power : (k l : ℕ) → l < k → count_trailing_zeros k (2 ^ l) ≡ l
unfolding count_trailing_zeros
zeros_power zero l h = absurd (omega arith)
zeros_power (suc k) zero h = refl
zeros_power (suc k) (suc l) h =
    let twice = pow-suc 2 l in
    let even : 2 ^ suc l % 2 ≡ 0 = omega arith in
    let half : 2 ^ suc l / 2 ≡ 2 ^ l = omega arith in
    ap₂ under even (ap (count_trailing_zeros k) half) ∙ ap suc (zeros_power k l (omega arith))

module _ (n : ℕ) (p : Pattern) (good : GoodHeld n (pattern p)) where
  leaves_taken : (q : ℕ) → Within 1 (leaves p) q → some_taken n (pattern p) q ≡ true
  leaves_taken q w =
      let (c, l, t) = leaf_taken n p 1 q good.0 w in
      mem_any (λ (d : ℕ). leaf_takes p 1 q d) (upto n) (upto_mem n l) t

  no_other : (q : ℕ) → (Within 1 (leaves p) q → ⊥) → some_taken n (pattern p) q ≡ false
  no_other q other =
      not_true (some_taken n (pattern p) q)
      (λ e. let (c, d, t) = any_true (λ (c : ℕ). leaf_takes p 1 q c) (upto n) e in other (takes_within p 1 q c t))

  leaves_mask : mask_of (some_taken n (pattern p)) + 2 ≡ 2 ^ leaves p * 2
  unfolding mask_of
  leaves_mask =
      let t = some_taken n (pattern p) in
      let first : keep t (upto places) ≡ from 1 (leaves p) =
      rw (no_other 0 (λ w. omega arith)) (keep_first t 1 (leaves p) most_leaves good.1 leaves_taken (λ q l. no_other q (λ w. omega arith))) in
      let is = ap mask first in
      let sum = mask_from 1 (leaves p) in
      let twice = pow-suc 2 (leaves p) in
      let same : 2 ^ (1 + leaves p) ≡ 2 ^ suc (leaves p) = ap (λ (x : ℕ). 2 ^ x) (omega arith) in
      omega arith

leaves_told : (m n : ℕ) → n < places → m + 2 ≡ 2 ^ n * 2 → places_in m ≡ suc n
leaves_told m n h e =
    let half : m / 2 + 1 ≡ 2 ^ n = omega arith in
    rw (neq_eqb (m % 2) 1 (λ (z : m % 2 ≡ 1). omega arith), half, zeros_power places n h) (omega arith)

open_told : (m : ℕ) → in_mask m 0 ≡ true → places_in m ≡ 2
unfolding in_mask
open_told m e = rw (ap (λ (x : ℕ). eqb (x % 2) 1) (sym (div-one m)) ∙ e)

module _ (n : ℕ) (most : n ≤ most_characters) (some : 0 < n) where
  pub places_told : (h : Held) → GoodHeld n h → places_by n (taking_masks h) ≡ places_of h
  unfolding places_by
  places_told some_text g =
      ap places_in (all_taken n most some_text)
      ∙ open_told (mask_of (some_taken n some_text))
      (in_mask_of (some_taken n some_text) 0 (omega arith) ∙ mem_any (λ (c : ℕ). true) (upto n) (upto_mem n some) refl)
  places_told (pattern p) g =
      ap places_in (all_taken n most (pattern p))
      ∙ leaves_told (mask_of (some_taken n (pattern p))) (leaves p) (let k = g.1 in omega arith) (leaves_mask n p g)
