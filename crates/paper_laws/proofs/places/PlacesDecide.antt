-- Places decide the language: running a field's place sets over a text ends in a set that may end exactly if the field may hold the text.
--   only_held : may_end h (set_along h first_set w) ≡ true → Holds h w
--   all_held  : Holds h w → may_end h (set_along h first_set w) ≡ true
-- Follows from `After` (what may come after a place against the language) and from what a set holds after a character (`mem_after`, `after_mem`).
use Prim.Native.Nat.{ℕ, zero, suc, ◌≤◌}
use native.Mathlib.Omega.{arith}
use mathlib.Core.Path.{◌≡◌, refl}
use mathlib.Core.Bool.{true, ◌&&◌}
use mathlib.Core.List.Memᴰ
use mathlib.Core.List.{List, [], ◌∷◌, Memᴰ}
use Rattle.paper.specs.Lists.{any}
use Rattle.paper.proofs.base.Tests.{true_false, and_left, and_right, both_true}
use Rattle.paper.proofs.base.Lists.{any_true, mem_any, mem_keep, keep_mem, from_mem}
use Rattle.paper.specs.Pattern.{Pattern, Held, some_text, pattern, Holds}
use Rattle.paper.specs.Places.{leaves, leaf_takes, follows, ends_at, PlaceSet, leaf_places, first_set, set_after, may_end, set_along}
use Rattle.paper_laws.proofs.places.Parts.{takes_within}
use Rattle.paper_laws.proofs.places.After.{After, ends, goes, FromStart, at_once, begins, start_fits, fits_start}

-- What a set holds after a character: the leaf q takes it and may follow the place i of the set.
pub record Step (p : Pattern) (s : PlaceSet) (c q : ℕ) : Type 0 where
  pub from_place : ℕ
  pub in_set : Memᴰ from_place s
  pub follow : follows p from_place q ≡ true
  pub take : leaf_takes p 1 q c ≡ true

module _ (p : Pattern) (s : PlaceSet) (c q : ℕ) where
  pub mem_after : Memᴰ q (set_after (pattern p) s c) → Step p s c q
  unfolding set_after
  mem_after d =
      let k = mem_keep (λ (j : ℕ). leaf_takes p 1 j c && any (λ (i : ℕ). follows p i j) s) (leaf_places p) d in
      let f = any_true (λ (i : ℕ). follows p i q) s (and_right (leaf_takes p 1 q c) (any (λ (i : ℕ). follows p i q) s) k.1) in
      record {
        from_place = f.0;
        in_set = f.1;
        follow = f.2;
        take = and_left (leaf_takes p 1 q c) (any (λ (i : ℕ). follows p i q) s) k.1;
      }

  pub after_mem : Step p s c q → Memᴰ q (set_after (pattern p) s c)
  unfolding set_after
  after_mem st =
      let m = takes_within p 1 q c st.take in
      keep_mem (λ (j : ℕ). leaf_takes p 1 j c && any (λ (i : ℕ). follows p i j) s) (leaf_places p)
      (from_mem 1 (leaves p) m.low m.high)
      (both_true st.take (mem_any (λ (i : ℕ). follows p i q) s st.in_set st.follow))

-- the text w may come after the place i, the start or a leaf
abbrev pub FromPlace : Pattern → ℕ → List ℕ → Type 0
FromPlace p zero w = FromStart p 1 w
FromPlace p (suc i) w = After p 1 (suc i) w

from_leaf : (p : Pattern) (q : ℕ) (w : List ℕ) → 1 ≤ q → FromPlace p q w → After p 1 q w
from_leaf p zero w h r = absurd (omega arith)
from_leaf p (suc q) w h r = r

leaf_from : (p : Pattern) (q : ℕ) (w : List ℕ) → 1 ≤ q → After p 1 q w → FromPlace p q w
leaf_from p zero w h r = absurd (omega arith)
leaf_from p (suc q) w h r = r

end_from : (p : Pattern) (i : ℕ) → ends_at (pattern p) i ≡ true → FromPlace p i []
end_from p zero e = at_once e
end_from p (suc i) e = ends (suc i) e

from_end : (p : Pattern) (i : ℕ) → FromPlace p i [] → ends_at (pattern p) i ≡ true
from_end p zero (at_once e) = e
from_end p (suc i) (ends _ e) = e

step_from : (p : Pattern) (i q c : ℕ) (w : List ℕ) → follows p i q ≡ true → leaf_takes p 1 q c ≡ true → After p 1 q w → FromPlace p i (c ∷ w)
step_from p zero q c w f t r = begins q c f t r
step_from p (suc i) q c w f t r = goes (suc i) q c f t r

from_step : (p : Pattern) (i c : ℕ) (w : List ℕ) → FromPlace p i (c ∷ w) → (q : ℕ) × (follows p i q ≡ true) × (leaf_takes p 1 q c ≡ true) × After p 1 q w
from_step p zero c w (begins q _ f t r) = (q, f, t, r)
from_step p (suc i) c w (goes _ q _ f t r) = (q, f, t, r)

-- a set may end after a text exactly if the text may come after one of its places
set_from : (p : Pattern) (w : List ℕ) (s : PlaceSet)
    → may_end (pattern p) (set_along (pattern p) s w) ≡ true → (i : ℕ) × Memᴰ i s × FromPlace p i w
unfolding may_end
set_from p [] s h = let r = any_true (λ (i : ℕ). ends_at (pattern p) i) s h in (r.0, r.1, end_from p r.0 r.2)
set_from p (c ∷ w) s h =
    let r = set_from p w (set_after (pattern p) s c) h in
    let st = mem_after p s c r.0 r.1 in
    let m = takes_within p 1 r.0 c st.take in (
      st.from_place,
      st.in_set,
      step_from p st.from_place r.0 c w st.follow st.take (from_leaf p r.0 w m.low r.2),
    )

pub from_set : (p : Pattern) (w : List ℕ) (s : PlaceSet) (i : ℕ)
    → Memᴰ i s → FromPlace p i w → may_end (pattern p) (set_along (pattern p) s w) ≡ true
unfolding may_end
from_set p [] s i d r = mem_any (λ (j : ℕ). ends_at (pattern p) j) s d (from_end p i r)
from_set p (c ∷ w) s i d r =
    let n = from_step p i c w r in
    let q = n.0 in
    from_set p w (set_after (pattern p) s c) q
    (after_mem p s c q (record { from_place = i; in_set = d; follow = n.1; take = n.2 }))
    (leaf_from p q w (takes_within p 1 q c n.2).low n.3)

-- after a character an open field's set never changes
pub open_along : (w : List ℕ) → set_along some_text (1 ∷ []) w ≡ 1 ∷ []
unfolding set_after
open_along [] = refl
open_along (c ∷ w) = open_along w

pub only_held : (h : Held) (w : List ℕ) → may_end h (set_along h first_set w) ≡ true → Holds h w
unfolding may_end
only_held some_text [] e = absurd (true_false e refl)
only_held some_text (c ∷ w) e = omega arith
only_held (pattern p) w e =
    let r = set_from p w first_set e in
    start_fits p 1 w (rw (Memᴰ.eq_of_singleton r.1) at r.2)

pub all_held : (h : Held) (w : List ℕ) → Holds h w → may_end h (set_along h first_set w) ≡ true
unfolding may_end set_after
all_held some_text [] t = absurd (omega arith)
all_held some_text (c ∷ w) t = rw (open_along w)
all_held (pattern p) w f = from_set p w first_set 0 (Memᴰ.head refl) (fits_start f 1)
