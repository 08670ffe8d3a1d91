-- Laws of bytes put and counted: none, one behind the other, and all of them from the front where there is room.
--   counted_none, counted_then : what is put one behind the other
--   counted_length             : the place behind what is put from the front on is how long it is
--   counted_in_front           : where there is room, it stands in front, and the rest is unchanged
--   counted_outside            : into no bytes nothing is put; set_outside : past the end nothing is stored
-- Follows from the laws of stores one after the other.
use Prim.Native.Nat.{ℕ, zero, suc, ◌+◌, ◌≤◌, ◌<◌}
use native.Mathlib.Nat.{add-zero, zero-add}
use native.Mathlib.Omega.{arith}
use mathlib.Core.Path.{◌≡◌, refl, sym, ◌∙◌, ap}
use mathlib.Core.List.{List, [], ◌∷◌, ◌++◌}
use lib.ListN.{length, set, drop}
use lib.Seq.{sets, sets-eq}
use Rattle.paper.proofs.base.Tests.{lt_ltb}
use Rattle.base_put.specs.Counted.{last_place, next_place, place_behind, put_from, Counted}

behind_append : (at : ℕ) (l m : List ℕ) → place_behind at (l ++ m) ≡ place_behind (place_behind at l) m
behind_append at [] m = refl
behind_append at (b ∷ l) m = behind_append (next_place at) l m

from_append : (d : List ℕ) (at : ℕ) (l m : List ℕ) → put_from d at (l ++ m) ≡ put_from (put_from d at l) (place_behind at l) m
from_append d at [] m = refl
from_append d at (b ∷ l) m = from_append (set d at b) (next_place at) l m

-- past the end nothing is stored
pub set_outside : (d : List ℕ) (i b : ℕ) → length d ≤ i → set d i b ≡ d
set_outside [] i b h = refl
set_outside (x ∷ d) zero b h = absurd (omega arith)
set_outside (x ∷ d) (suc i) b h = ap (λ (l : List ℕ). x ∷ l) (set_outside d i b (omega arith))

module _ {d : List ℕ} {at : ℕ} where
  pub counted_none : Counted d d at at []
  counted_none = record { bytes = refl; behind = refl }

  pub counted_then : {e f : List ℕ} {b c : ℕ} {l m : List ℕ} → Counted d e at b l → Counted e f b c m → Counted d f at c (l ++ m)
  counted_then {l = l} {m = m} p q =
      record {
        bytes = q.bytes ∙ rw (p.bytes, p.behind) (sym (from_append d at l m));
        behind = q.behind ∙ rw p.behind (sym (behind_append at l m));
      }

next_suc : (at : ℕ) → at < last_place → next_place at ≡ suc at
unfolding next_place
next_suc at h = rw (lt_ltb at last_place h)

behind_length : (at : ℕ) (l : List ℕ) → at + length l ≤ last_place → place_behind at l ≡ at + length l
behind_length at [] h = sym (add-zero at)
behind_length at (b ∷ l) h = rw (next_suc at (omega arith)) (behind_length (suc at) l (omega arith) ∙ (omega arith))

from_sets : (d : List ℕ) (at : ℕ) (l : List ℕ) → at + length l ≤ last_place → put_from d at l ≡ sets d at l
from_sets d at [] h = refl
from_sets d at (b ∷ l) h = rw (next_suc at (omega arith)) (from_sets (set d at b) (suc at) l (omega arith))

into_none : (at : ℕ) (l : List ℕ) → put_from [] at l ≡ []
into_none at [] = refl
into_none at (b ∷ l) = into_none (next_place at) l

module _ {d e : List ℕ} {n : ℕ} {l : List ℕ} (p : Counted d e 0 n l) where
  pub counted_length : length l ≤ last_place → n ≡ length l
  counted_length h = p.behind ∙ behind_length 0 l (omega arith) ∙ zero-add (length l)

  pub counted_in_front : length l ≤ last_place → length l ≤ length d → e ≡ l ++ drop (length l) d
  counted_in_front h k = p.bytes ∙ from_sets d 0 l (omega arith) ∙ sets-eq l d 0 (rw zero-add k) ∙ rw zero-add

pub counted_outside : {e : List ℕ} {at n : ℕ} {l : List ℕ} → Counted [] e at n l → e ≡ []
counted_outside {at = at} {l = l} p = p.bytes ∙ into_none at l
