-- What a place set looks like: a strictly rising list of places, the start or leaves.
--   places_reached : a place q of set_along (pattern p) first_set w is at most leaves p
-- Follows from the definitions: a set after a character is a part of the list of leaves.
use Prim.Native.Nat.{ℕ, zero, suc, ◌≤◌, ◌<◌}
use native.Mathlib.Omega.{arith}
use mathlib.Core.Bool.{Bool, true, false}
use mathlib.Core.List.Memᴰ
use mathlib.Core.List.{List, [], ◌∷◌, ◌++◌, Memᴰ}
use Rattle.paper.specs.Lists.{from, only, keep}
use Rattle.paper.proofs.base.Lists.{mem_keep, mem_from}
use Rattle.paper.specs.Pattern.{Pattern, Held, some_text, pattern}
use Rattle.paper.specs.Places.{leaves, PlaceSet, first_set, set_after, set_along}
use Rattle.paper_laws.proofs.places.Parts.{takes_within}
use Rattle.paper_laws.proofs.places.PlacesDecide.{mem_after}

-- strictly rising: each place is below all behind it
pub data Rising : List ℕ → Type 0 where
  none : Rising []
  more : {i : ℕ} {s : List ℕ} → ((q : ℕ) → Memᴰ q s → i < q) → Rising s → Rising (i ∷ s)

rising_from : (a n : ℕ) → Rising (from a n)
rising_from a zero = none
rising_from a (suc n) = more (λ q d. (mem_from (suc a) n d).0) (rising_from (suc a) n)

rising_only : (b : Bool) (i : ℕ) {s : List ℕ} → ((q : ℕ) → Memᴰ q s → i < q) → Rising s → Rising (only b i ++ s)
rising_only true i h r = more h r
rising_only false i h r = r

rising_keep : (f : ℕ → Bool) {s : List ℕ} → Rising s → Rising (keep f s)
rising_keep f none = none
rising_keep f (more {i = i} {s = s} h r) = rising_only (f i) i (λ q d. h q (mem_keep f s d).0) (rising_keep f r)

pub rising_first : Rising first_set
rising_first = more (λ q d. absurd (Memᴰ.not-nil d)) none

pub rising_after : (h : Held) (s : PlaceSet) (c : ℕ) → Rising s → Rising (set_after h s c)
unfolding set_after
rising_after some_text [] c r = none
rising_after some_text (i ∷ s) c r = more (λ q d. absurd (Memᴰ.not-nil d)) none
rising_after (pattern p) s c r = rising_keep _ (rising_from 1 (leaves p))

-- after a character every place is a leaf
pub leaf_after : (p : Pattern) (s : PlaceSet) (c q : ℕ) → Memᴰ q (set_after (pattern p) s c) → (1 ≤ q) × (q ≤ leaves p)
leaf_after p s c q d = let m = takes_within p 1 q c (mem_after p s c q d).take in omega arith

places_along : (p : Pattern) (s : PlaceSet) (w : List ℕ) → ((q : ℕ) → Memᴰ q s → q ≤ leaves p)
    → (q : ℕ) → Memᴰ q (set_along (pattern p) s w) → q ≤ leaves p
places_along p s [] h = h
places_along p s (c ∷ w) h = places_along p (set_after (pattern p) s c) w (λ q d. (leaf_after p s c q d).1)

pub places_reached : (p : Pattern) (w : List ℕ) (q : ℕ) → Memᴰ q (set_along (pattern p) first_set w) → q ≤ leaves p
places_reached p w =
    places_along p first_set w
    (λ (q : ℕ) (d : Memᴰ q first_set). let e = Memᴰ.eq_of_singleton d in omega arith)
