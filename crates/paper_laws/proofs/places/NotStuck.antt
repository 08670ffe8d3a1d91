-- No reachable place set is stuck: where each leaf takes some character, from every set that a text leads to and that is not empty
-- a further text, over the characters, leads to a set that may end.
--   not_stuck : held_takes n h → is_empty (set_along h first_set w) ≡ false
--     → (v : List ℕ) × Over n v × (may_end h (set_along h first_set (w ++ v)) ≡ true)
-- By induction on the pattern: a text may come after every leaf of a part (`after_leaf`), and some text fits it (`fitting_text`).
use Prim.Native.Nat.{ℕ, zero, suc, ◌+◌, ◌≤◌, ◌<◌}
use native.Mathlib.Omega.{arith}
use mathlib.Core.Path.{◌≡◌, refl}
use mathlib.Core.Bool.{true, false}
use mathlib.Core.List.{List, [], ◌∷◌, ◌++◌, Memᴰ}
use lib.Dec.{eqb}
use lib.ListN.{length-append}
use Rattle.paper.proofs.base.Tests.{true_false, and_right, eq_eqb}
use Rattle.paper.proofs.base.Lists.{mem_cons_by}
use Rattle.paper.specs.Equation.{Over}
use Rattle.paper.specs.Pattern.{takes, Pattern, leaf, empty, then, either, many, Held, some_text, pattern, Fits, one, nothing, both, first, none}
use Rattle.paper.specs.Places.{leaves, leaf_takes, PlaceSet, first_set, may_end, is_empty, set_along}
use Rattle.paper.specs.Taken.{leaves_take, held_takes}
use Rattle.paper_laws.proofs.places.Parts.{Within, one_part, takes_parts}
use Rattle.paper_laws.proofs.places.After.{After, ends, goes, FromStart, at_once, begins, second_then, after_then, first_after, second_after, after_many, fits_start}
use Rattle.paper_laws.proofs.places.PlacesDecide.{FromPlace, from_set, all_held}
use Rattle.paper_laws.proofs.places.Rising.{places_reached}
use Rattle.paper_laws.proofs.places.PlaceSets.{along_append}

-- Only characters are read.
pub takes_character : (n : ℕ) (p : Pattern) (o q c : ℕ) → leaves_take n p → leaf_takes p o q c ≡ true → c < n
takes_character n (leaf l) o q c k h = k.character c (and_right (eqb o q) (takes l c) h)
takes_character n empty o q c k h = absurd (true_false h refl)
takes_character n (then a b) o q c k h =
    takes_parts a b o q c (takes_character n a o q c k.0) (takes_character n b (o + leaves a) q c k.1) h
takes_character n (either a b) o q c k h =
    takes_parts a b o q c (takes_character n a o q c k.0) (takes_character n b (o + leaves a) q c k.1) h
takes_character n (many a) o q c k h = takes_character n a o q c k h

module _ (n : ℕ) (p : Pattern) (o : ℕ) (k : leaves_take n p) where
  after_over : {i : ℕ} {w : List ℕ} → After p o i w → Over n w
  after_over (ends i l) = λ c d. absurd (mathlib.Core.List.Memᴰ.not-nil d)
  after_over (goes i q c f t r) = mem_cons_by (λ (x : ℕ). x < n) (takes_character n p o q c k t) (after_over r)

  start_over : {w : List ℕ} → FromStart p o w → Over n w
  start_over (at_once e) = λ c d. absurd (mathlib.Core.List.Memᴰ.not-nil d)
  start_over (begins q c f t r) = mem_cons_by (λ (x : ℕ). x < n) (takes_character n p o q c k t) (after_over r)

-- what fits is over the characters
pub fits_over : (n : ℕ) (p : Pattern) {w : List ℕ} → leaves_take n p → Fits p w → Over n w
fits_over n p k f = start_over n p 0 k (fits_start f 0)

-- some text fits
fitting_text : (n : ℕ) (p : Pattern) → leaves_take n p → (v : List ℕ) × Fits p v
fitting_text n (leaf l) k = (k.some ∷ [], one k.taken)
fitting_text n empty k = ([], nothing)
fitting_text n (then a b) k =
    let u = fitting_text n a k.0 in
    let v = fitting_text n b k.1 in
    (u.0 ++ v.0, both refl u.1 v.1)
fitting_text n (either a b) k = let u = fitting_text n a k.0 in (u.0, first u.1)
fitting_text n (many a) k = ([], none)

-- some text may come after each leaf
after_leaf : (n : ℕ) (p : Pattern) (o i : ℕ) → leaves_take n p → Within o (leaves p) i → (v : List ℕ) × After p o i v
after_leaf n (leaf l) o i k h = ([], ends i (eq_eqb o i (omega arith)))
after_leaf n empty o i k h = absurd (omega arith)
after_leaf n (then a b) o i k h =
    one_part o (leaves a) (leaves b) i
    (λ m.
    let u = after_leaf n a o i k.0 m in
    let v = fitting_text n b k.1 in
    (u.0 ++ v.0, after_then a b o u.1 (fits_start v.1 (o + leaves a))))
    (λ m. let v = after_leaf n b (o + leaves a) i k.1 m in (v.0, second_then a b o v.1))
    h
after_leaf n (either a b) o i k h =
    one_part o (leaves a) (leaves b) i
    (λ m. let u = after_leaf n a o i k.0 m in (u.0, first_after a b o u.1))
    (λ m. let v = after_leaf n b (o + leaves a) i k.1 m in (v.0, second_after a b o v.1))
    h
after_leaf n (many a) o i k h =
    let u = after_leaf n a o i k h in
    (u.0 ++ [], after_many a o u.1 (at_once refl))

-- some text may come after each place, over the characters
after_place : (n : ℕ) (p : Pattern) (i : ℕ) → leaves_take n p → i ≤ leaves p
    → (v : List ℕ) × Over n v × FromPlace p i v
after_place n p zero k h =
    let u = fitting_text n p k in
    (u.0, fits_over n p k u.1, fits_start u.1 1)
after_place n p (suc i) k h =
    let u = after_leaf n p 1 (suc i) k (omega arith) in
    (u.0, after_over n p 1 k u.1, u.1)

-- from a set with a place of the pattern
set_ends : (n : ℕ) (p : Pattern) (s : PlaceSet) → leaves_take n p → ((q : ℕ) → Memᴰ q s → q ≤ leaves p) → is_empty s ≡ false
    → (v : List ℕ) × Over n v × (may_end (pattern p) (set_along (pattern p) s v) ≡ true)
set_ends n p [] k h e = absurd (true_false refl e)
set_ends n p (i ∷ s) k h e =
    let d : Memᴰ i (i ∷ s) = mathlib.Core.List.Memᴰ.head refl in
    let u = after_place n p i k (h i d) in
    (u.0, u.1, from_set p u.0 (i ∷ s) i d u.2)

pub not_stuck : (n : ℕ) (h : Held) (w : List ℕ) → held_takes n h → is_empty (set_along h first_set w) ≡ false
    → (v : List ℕ) × Over n v × (may_end h (set_along h first_set (w ++ v)) ≡ true)
not_stuck n some_text w k e =
    (0 ∷ [], mem_cons_by (λ (x : ℕ). x < n) k (λ c d. absurd (mathlib.Core.List.Memᴰ.not-nil d)), all_held some_text (w ++ (0 ∷ [])) (omega (arith, length-append w (0 ∷ []))))
not_stuck n (pattern p) w k e =
    let u = set_ends n p (set_along (pattern p) first_set w) k (places_reached p w) e in
    (u.0, u.1, rw (along_append (pattern p) first_set w u.0) u.2)
