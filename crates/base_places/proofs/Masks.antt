-- From masks back to place sets: what the search cites.
--   mask_same        equal masks are masks of equal sets
--   mask_empty       a mask is 0 exactly if the set is empty
--   mask_may_end     a set may end exactly if its mask and the last places have a place in common
--   mask_after       the mask of the set after c: what of the followers takes c
-- They hold for sets that a mask can hold (`Masked`): rising, of places below `places`. The first set is one, the set of a field that is gone
-- (no place) is one, and so is a set after a character. Of a pattern at most `most_leaves` leaves are assumed (`Few`), which `judge` tests.
use Prim.Native.Nat.{ℕ, zero, suc, ◌+◌, ◌^◌, ◌≤◌, ◌<◌, zero-le}
use native.Mathlib.Omega.{arith}
use mathlib.Core.Path.{◌≡◌, refl, sym, ap, ap₂, ◌∙◌}
use mathlib.Core.Bool.{Bool, true, false, not, ◌&&◌, ◌||◌, and_comm, and-true, or-false, not-not}
use mathlib.Core.List.Memᴰ
use mathlib.Core.List.{List, [], ◌∷◌, ◌++◌, Memᴰ}
use lib.Dec.{eqb}
use lib.Bits.{bit_and}
use lib.ListN.{get_or}
use lib.Pow.{pow_pos}
use Rattle.paper.specs.Lists.{from, upto, any, only, keep, member}
use Rattle.paper.specs.Numbers.{most_leaves, most_characters}
use Rattle.paper.specs.Pattern.{Held, some_text, pattern}
use Rattle.paper.specs.Places.{leaves, leaf_takes, follows, ends_at, PlaceSet, leaf_places, first_set, set_after, may_end, is_empty}
use Rattle.paper.proofs.base.Listed.{any_same, keep_same, keep_none}
use Rattle.paper.proofs.base.Tests.{by_bool, same_tests, and_left, and_right, both_true, eqb_true, eqb_false, neq_eqb}
use Rattle.paper.proofs.base.Lists.{cons_eq, mem_cons_by, any_true, mem_any, none_any, mem_keep, keep_mem, mem_from, from_mem, mem_upto, upto_mem, member_true, mem_member}
use Rattle.paper_laws.proofs.places.Parts.{takes_within}
use Rattle.paper_laws.proofs.places.Rising.{Rising, none, more, rising_first, rising_after, leaf_after}
use Rattle.base_places.specs.Masks.{places, mask, mask_of, in_mask, comes_next, takes_at, follow_masks, taking_mask, taking_masks, last_mask, followers_of}
use Rattle.base_places.proofs.MaskOf.{in_mask_of, mask_of_same, mask_of_and}
use Rattle.base_places.proofs.Filling.{get_or_table}

-- some place of the set passes: all places can be tried
any_member : (f : ℕ → Bool) (n : ℕ) (s : PlaceSet) → ((q : ℕ) → Memᴰ q s → q < n) → any (λ (q : ℕ). member q s && f q) (upto n) ≡ any f s
any_member f n s h =
    same_tests (any (λ (q : ℕ). member q s && f q) (upto n)) (any f s)
    (λ e.
    let r = any_true (λ (q : ℕ). member q s && f q) (upto n) e in
    mem_any f s (member_true r.0 s (and_left (member r.0 s) (f r.0) r.2)) (and_right (member r.0 s) (f r.0) r.2))
    (λ e.
    let r = any_true f s e in
    mem_any (λ (q : ℕ). member q s && f q) (upto n) (upto_mem n (h r.0 r.1)) (both_true (mem_member r.0 s r.1) r.2))

-- A rising set is what its own test keeps of all places.
member_behind : (q i : ℕ) (s : PlaceSet) → i < q → member q (i ∷ s) ≡ member q s
member_behind q i s l = ap (λ (b : Bool). b || member q s) (neq_eqb q i (λ e. omega arith))

keep_member : (a n : ℕ) (s : PlaceSet) → Rising s → ((q : ℕ) → Memᴰ q s → (a ≤ q) × (q < a + n)) → keep (λ (q : ℕ). member q s) (from a n) ≡ s
keep_member a zero [] none h = refl
keep_member a zero (i ∷ s) (more k r) h = let w = h i (Memᴰ.head refl) in absurd (omega arith)
keep_member a (suc n) [] none h = keep_none (λ (q : ℕ). false) (from (suc a) n) (λ q. refl)
keep_member a (suc n) (i ∷ s) (more k r) h =
    let w = h i (Memᴰ.head refl) in
    by_bool (eqb a i)
    (λ (e : eqb a i ≡ true).
    let g : a ≡ i = eqb_true a i e in
    ap (λ (b : Bool). only (b || member a s) a ++ keep (λ (q : ℕ). member q (i ∷ s)) (from (suc a) n)) e
    ∙ cons_eq g
    (keep_same (λ (q : ℕ). member q (i ∷ s)) (λ (q : ℕ). member q s) (from (suc a) n)
    (λ q d. let l = (mem_from (suc a) n d).0 in member_behind q i s (omega arith))
    ∙ keep_member (suc a) n s r
    (λ q d. let l = k q d in let u = h q (Memᴰ.tail d) in (omega arith, omega arith))))
    (λ (e : eqb a i ≡ false).
    let g : a ≡ i → ⊥ = eqb_false a i e in
    ap (λ (b : Bool). only b a ++ keep (λ (q : ℕ). member q (i ∷ s)) (from (suc a) n))
    (none_any (λ (y : ℕ). eqb a y) (i ∷ s)
    (mem_cons_by (λ (y : ℕ). eqb a y ≡ false) e (λ y d. let l = k y d in neq_eqb a y (λ f. omega arith))))
    ∙ keep_member (suc a) n (i ∷ s) (more k r)
    (mem_cons_by (λ (q : ℕ). (suc a ≤ q) × (q < suc a + n)) (omega arith)
    (λ q d. let l = k q d in let u = h q (Memᴰ.tail d) in (omega arith, omega arith))))

-- A set that a mask can hold.
pub record Masked (s : PlaceSet) : Type 0 where
  pub rising : Rising s
  pub below : (q : ℕ) → Memᴰ q s → q < places

-- not too many leaves
abbrev pub Few : Held → Type 0
Few some_text = Unit {0}
Few (pattern p) = leaves p ≤ most_leaves

pub masked_first : Masked first_set
masked_first =
    record {
      rising = rising_first;
      below = λ (q : ℕ) (d : Memᴰ q first_set). let e = Memᴰ.eq_of_singleton d in omega arith;
    }

pub masked_none : Masked []
masked_none = record { rising = none; below = λ q d. absurd (Memᴰ.not-nil d) }

pub masked_after : (h : Held) (s : PlaceSet) (c : ℕ) → Few h → Masked s → Masked (set_after h s c)
unfolding set_after
masked_after some_text [] c f m = masked_none
masked_after some_text (i ∷ s) c f m =
    record {
      rising = rising_after some_text (i ∷ s) c m.rising;
      below = λ (q : ℕ) (d : Memᴰ q (1 ∷ [])). let e = Memᴰ.eq_of_singleton d in omega arith;
    }
masked_after (pattern p) s c f m =
    record { rising = rising_after (pattern p) s c m.rising; below = λ q d. let l = leaf_after p s c q d in omega arith }

mask_is : (s : PlaceSet) → Masked s → mask s ≡ mask_of (λ (q : ℕ). member q s)
unfolding mask_of
mask_is s m = sym (ap mask (keep_member 0 places s m.rising (λ q d. let l = m.below q d in (zero-le, omega arith))))

in_mask_is : (s : PlaceSet) → Masked s → (i : ℕ) → i < places → in_mask (mask s) i ≡ member i s
in_mask_is s m i l = ap (λ (x : ℕ). in_mask x i) (mask_is s m) ∙ in_mask_of (λ (q : ℕ). member q s) i l

pub mask_same : (s t : PlaceSet) → Masked s → Masked t → mask s ≡ mask t → s ≡ t
mask_same s t m n e =
    sym (keep_member 0 places s m.rising (λ q d. let l = m.below q d in (zero-le, omega arith)))
    ∙ keep_same (λ (q : ℕ). member q s) (λ (q : ℕ). member q t) (upto places)
    (λ q d. let l = mem_upto places d in sym (in_mask_is s m q l) ∙ ap (λ (x : ℕ). in_mask x q) e ∙ in_mask_is t n q l)
    ∙ keep_member 0 places t n.rising (λ q d. let l = n.below q d in (zero-le, omega arith))

pub mask_empty : (s : PlaceSet) → eqb (mask s) 0 ≡ is_empty s
mask_empty [] = refl
mask_empty (i ∷ s) = neq_eqb (2 ^ i + mask s) 0 (λ e. let l = pow_pos i in omega arith)

-- the mask of a test is 0 exactly if no place passes
empty_only : (b a : Bool) (x : ℕ) (s : PlaceSet) → is_empty s ≡ not a → is_empty (only b x ++ s) ≡ not (b || a)
empty_only true a x s e = refl
empty_only false a x s e = e

empty_keep : (t : ℕ → Bool) (l : List ℕ) → is_empty (keep t l) ≡ not (any t l)
empty_keep t [] = refl
empty_keep t (x ∷ l) = empty_only (t x) (any t l) x (keep t l) (empty_keep t l)

mask_of_empty : (t : ℕ → Bool) → eqb (mask_of t) 0 ≡ not (any t (upto places))
unfolding mask_of
mask_of_empty t = mask_empty (keep t (upto places)) ∙ empty_keep t (upto places)

-- two masks have a place in common if some place passes both tests, or some place of the set the other's
pub tests_meet : (t u : ℕ → Bool) → not (eqb (bit_and (mask_of t) (mask_of u)) 0) ≡ any (λ (q : ℕ). t q && u q) (upto places)
tests_meet t u =
    ap (λ (x : ℕ). not (eqb x 0)) (mask_of_and t u)
    ∙ ap not (mask_of_empty (λ (q : ℕ). t q && u q))
    ∙ not-not (any (λ (q : ℕ). t q && u q) (upto places))

pub mask_meets : (t : ℕ → Bool) (s : PlaceSet) → Masked s → not (eqb (bit_and (mask s) (mask_of t)) 0) ≡ any t s
mask_meets t s m =
    ap (λ (x : ℕ). not (eqb (bit_and x (mask_of t)) 0)) (mask_is s m)
    ∙ tests_meet (λ (q : ℕ). member q s) t
    ∙ any_member t places s m.below

pub mask_may_end : (h : Held) (s : PlaceSet) → Masked s → not (eqb (bit_and (mask s) (last_mask h)) 0) ≡ may_end h s
unfolding last_mask may_end
mask_may_end h s m = mask_meets (λ (i : ℕ). ends_at h i) s m

-- the followers of a set
followers_is : (h : Held) (s : PlaceSet) → Masked s
    → followers_of (follow_masks h) (mask s) ≡ mask_of (λ (q : ℕ). any (λ (i : ℕ). comes_next h i q) s)
unfolding followers_of follow_masks
followers_is h s m =
    mask_of_same (λ (q : ℕ). any (λ (i : ℕ). in_mask (mask s) i && in_mask (get_or (follow_masks h) i 0) q) (upto places))
    (λ (q : ℕ). any (λ (i : ℕ). comes_next h i q) s)
    (λ q lq.
    any_same (λ (i : ℕ). in_mask (mask s) i && in_mask (get_or (follow_masks h) i 0) q) (λ (i : ℕ). member i s && comes_next h i q) (upto places)
    (λ i d.
    let li = mem_upto places d in
    ap₂ ◌&&◌ (in_mask_is s m i li)
    (ap (λ (x : ℕ). in_mask x q) (get_or_table (λ (i : ℕ). mask_of (λ (q : ℕ). comes_next h i q)) places i li)
    ∙ in_mask_of (λ (q : ℕ). comes_next h i q) q lq))
    ∙ any_member (λ (i : ℕ). comes_next h i q) places s m.below)

one_for_all : (b : Bool) (s : PlaceSet) → b || any (λ (j : ℕ). b) s ≡ b
one_for_all true s = refl
one_for_all false [] = refl
one_for_all false (i ∷ s) = one_for_all false s

-- what stands in the set after a character
pub member_after : (h : Held) (s : PlaceSet) (c q : ℕ) → any (λ (i : ℕ). comes_next h i q) s && takes_at h q c ≡ member q (set_after h s c)
unfolding set_after
member_after some_text [] c q = refl
member_after some_text (i ∷ s) c q = and-true (eqb q 1 || any (λ (j : ℕ). eqb q 1) s) ∙ one_for_all (eqb q 1) s ∙ sym (or-false (eqb q 1))
member_after (pattern p) s c q =
    let next = any (λ (i : ℕ). follows p i q) s in
    let takes = leaf_takes p 1 q c in
    let t : ℕ → Bool = λ (q : ℕ). leaf_takes p 1 q c && any (λ (i : ℕ). follows p i q) s in
    and_comm next takes
    ∙ same_tests (takes && next) (member q (keep t (leaf_places p)))
    (λ e.
    let w = takes_within p 1 q c (and_left takes next e) in
    mem_member q (keep t (leaf_places p)) (keep_mem t (leaf_places p) (from_mem 1 (leaves p) w.low w.high) e))
    (λ e. (mem_keep t (leaf_places p) (member_true q (keep t (leaf_places p)) e)).1)

pub mask_after : (h : Held) (s : PlaceSet) (c : ℕ) → Few h → Masked s
    → bit_and (followers_of (follow_masks h) (mask s)) (taking_mask h c) ≡ mask (set_after h s c)
unfolding taking_mask
mask_after h s c f m =
    ap (λ (x : ℕ). bit_and x (taking_mask h c)) (followers_is h s m)
    ∙ mask_of_and (λ (q : ℕ). any (λ (i : ℕ). comes_next h i q) s) (λ (q : ℕ). takes_at h q c)
    ∙ mask_of_same (λ (q : ℕ). any (λ (i : ℕ). comes_next h i q) s && takes_at h q c) (λ (q : ℕ). member q (set_after h s c))
    (λ q l. member_after h s c q)
    ∙ sym (mask_is (set_after h s c) (masked_after h s c f m))

-- what a character lets through, in the table
pub taking_at : (h : Held) (c : ℕ) → c < most_characters → get_or (taking_masks h) c 0 ≡ taking_mask h c
unfolding taking_masks
taking_at h = get_or_table (λ (c : ℕ). taking_mask h c) most_characters
