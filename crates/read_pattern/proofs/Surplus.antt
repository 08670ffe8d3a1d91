-- How many bytes are left from the leaf on that has no place (`surplus_of`): of no leaf, of one, of two parts one behind the other, and no more than
-- there are from any leaf on. Follows by induction on the places before the first leaf.
use Prim.Native.Nat.{ℕ, zero, suc, ◌+◌, ◌≤◌}
use native.Mathlib.Nat.{zero-add, suc-add}
use native.Mathlib.Omega.{arith}
use mathlib.Core.Path.{◌≡◌, refl, sym}
use mathlib.Core.Bool.{cond}
use mathlib.Core.List.{List, [], ◌∷◌, ◌++◌, Memᴰ}
use lib.Dec.{eqb, eqb-zero-suc, eqb-suc-zero, eqb-suc-suc}
use lib.ListN.{length, get_or, replicate}
use Rattle.paper.proofs.base.Tests.{by_bool, eqb_true}
use Rattle.base_places.specs.Masks.{places}
use Rattle.read_pattern.specs.ReadPart.{surplus_of}

-- the number of the list that stands at n, where the first stands at o
abbrev at : List ℕ → ℕ → ℕ → ℕ
at l o n = get_or (replicate o 0 ++ l) n 0

none_at : (o n : ℕ) → at [] o n ≡ 0
none_at zero n = refl
none_at (suc o) zero = refl
none_at (suc o) (suc n) = none_at o n

one_at : (x o n : ℕ) → cond (eqb o n) x 0 ≡ at (x ∷ []) o n
one_at x zero zero = refl
one_at x zero (suc n) = rw (eqb-zero-suc n)
one_at x (suc o) zero = rw (eqb-suc-zero o)
one_at x (suc o) (suc n) = rw (eqb-suc-suc o n) (one_at x o n)

both_at : (k l : List ℕ) (o n : ℕ) → cond (eqb (at k o n) 0) (at l (o + length k) n) (at k o n) ≡ at (k ++ l) o n
both_at k l (suc o) zero = rw (suc-add o (length k))
both_at k l (suc o) (suc n) = rw (suc-add o (length k)) (both_at k l o n)
both_at [] l zero n = refl
both_at (x ∷ k) l zero zero =
    by_bool (eqb x 0) (λ e. rw (e, eqb_true x 0 e, zero-add (suc (length k)))) (λ e. rw e)
both_at (x ∷ k) l zero (suc n) = rw (zero-add (suc (length k)), ← zero-add (length k)) (both_at k l zero n)

-- no number of the list is above m
abbrev AtMost : List ℕ → ℕ → Type 0
AtMost l m = (x : ℕ) → Memᴰ x l → x ≤ m

most_at : (l : List ℕ) (m o n : ℕ) → AtMost l m → at l o n ≤ m
most_at l m (suc o) zero h = omega arith
most_at l m (suc o) (suc n) h = most_at l m o n h
most_at [] m zero n h = omega arith
most_at (x ∷ l) m zero zero h = h x (Memᴰ.head refl)
most_at (x ∷ l) m zero (suc n) h = most_at l m zero n (λ y i. h y (Memᴰ.tail i))

pub surplus_none : (o : ℕ) → 0 ≡ surplus_of [] o
surplus_none o = sym (none_at o places)

pub surplus_one : (x o : ℕ) → cond (eqb o places) x 0 ≡ surplus_of (x ∷ []) o
surplus_one x o = one_at x o places

pub surplus_both : (k l : List ℕ) (o : ℕ)
    → cond (eqb (surplus_of k o) 0) (surplus_of l (o + length k)) (surplus_of k o) ≡ surplus_of (k ++ l) o
surplus_both k l o = both_at k l o places

pub surplus_within : (l : List ℕ) (m o : ℕ) → AtMost l m → surplus_of l o ≤ m
surplus_within l m o h = most_at l m o places h
