-- Place sets as an acceptor of texts: an empty set may not end and stays empty, and the test of sets is equality.
-- Follows from the definitions and from what a set holds after a character (`PlacesDecide`).
use Prim.Native.Nat.{ℕ}
use mathlib.Core.Path.{◌≡◌, refl}
use mathlib.Core.Bool.{true, false}
use mathlib.Core.List.Memᴰ
use mathlib.Core.List.{List, [], ◌∷◌, ◌++◌, Memᴰ}
use lib.Dec.{eqb}
use Rattle.paper.proofs.base.Tests.{true_false, eqb_true, eqb_same}
use Rattle.paper.proofs.base.Lists.{same_by_equal, same_by_same}
use Rattle.paper.specs.Pattern.{Held, some_text, pattern}
use Rattle.paper.specs.Places.{PlaceSet, set_after, may_end, is_empty, same_set, set_along}
use Rattle.paper_laws.proofs.places.PlacesDecide.{mem_after}

-- a set without a place is empty
no_place_empty : (s : PlaceSet) → ((q : ℕ) → Memᴰ q s → ⊥) → is_empty s ≡ true
no_place_empty [] h = refl
no_place_empty (i ∷ s) h = absurd (h i (Memᴰ.head refl))

pub empty_ends : (h : Held) (s : PlaceSet) → is_empty s ≡ true → may_end h s ≡ false
unfolding may_end
empty_ends h [] e = refl
empty_ends h (i ∷ s) e = absurd (true_false e refl)

pub empty_after : (h : Held) (s : PlaceSet) (c : ℕ) → is_empty s ≡ true → is_empty (set_after h s c) ≡ true
unfolding set_after
empty_after some_text [] c e = refl
empty_after some_text (i ∷ s) c e = absurd (true_false e refl)
empty_after (pattern p) [] c e =
    no_place_empty (set_after (pattern p) [] c) (λ q d. Memᴰ.not-nil (mem_after p [] c q d).in_set)
empty_after (pattern p) (i ∷ s) c e = absurd (true_false e refl)

pub empty_along : (h : Held) (s : PlaceSet) (w : List ℕ) → is_empty s ≡ true → is_empty (set_along h s w) ≡ true
empty_along h s [] e = e
empty_along h s (c ∷ w) e = empty_along h (set_after h s c) w (empty_after h s c e)

pub same_equal : (s t : PlaceSet) → same_set s t ≡ true → s ≡ t
same_equal = same_by_equal eqb eqb_true

pub equal_same : (s : PlaceSet) → same_set s s ≡ true
equal_same = same_by_same eqb eqb_same

-- one text, then another
pub along_append : (h : Held) (s : PlaceSet) (w v : List ℕ) → set_along h s (w ++ v) ≡ set_along h (set_along h s w) v
along_append h s [] v = refl
along_append h s (c ∷ w) v = along_append h (set_after h s c) w v
