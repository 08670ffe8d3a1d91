-- What the library's `all`, `any`, `find` and `contains` tell of numbers and marks, in this repository's words:
--   all_range, any_range : a test on the numbers from a on
--   found                : the first number that passes
--   some_marked          : is one of the first n marked?
--   told_below, or_first, mark_some, mark_none : of a number below n, or none
-- Follows from the definitions by induction on how many numbers there are.
use Prim.Native.Nat.{ℕ, zero, suc, ◌+◌, ◌≤◌}
use native.Mathlib.Numerals.{add-one}
use native.Mathlib.Omega.{arith}
use mathlib.Core.Path.{◌≡◌, refl, sym, ap, ap₂, ◌∙◌}
use mathlib.Core.Bool.{Bool, true, false, cond, beq, ◌&&◌, ◌||◌}
use mathlib.Core.List.{List, [], ◌∷◌}
use lib.Dec.{ltb}
use lib.ListN.{length, get_or, take, set}
use Rattle.std.specs.Prelude.{Option, Some, None}
use Rattle.std.specs.List.{range_with_len, list_all, list_any, find}
use Rattle.std.specs.Option.{option_map, is_some, MatchOption}
use Rattle.std.proofs.lemmas.List.{length-take-le, get_or-take}
use Rattle.paper.specs.Lists.{from, upto, any, all}
use Rattle.paper.proofs.base.Tests.{by_bool, lt_ltb, le_ltb}
use Rattle.search_tables.proofs.Listed.{is_listed, any_listed}
use Rattle.decide_alike.specs.AlikeCoded.{first_from, if_below, with_mark}

module _ (t : ℕ → Bool) where
  pub all_range : (a n : ℕ) → list_all t (range_with_len a n) ≡ all t (from a n)
  all_range a zero = refl
  all_range a (suc n) = ap (λ (b : Bool). t a && b) (rw add-one (all_range (suc a) n))

  pub any_range : (a n : ℕ) → list_any t (range_with_len a n) ≡ any t (from a n)
  any_range a zero = refl
  any_range a (suc n) = ap (λ (b : Bool). t a || b) (rw add-one (any_range (suc a) n))

  find_range : (a n m : ℕ) → a + n ≡ m → find t (range_with_len a n) ≡ if_below m (first_from t a n)
  unfolding first_from
  find_range a zero m e = rw (le_ltb a m (omega arith))
  find_range a (suc n) m e =
      by_bool (t a)
      (λ h. rw (h, lt_ltb a m (omega arith)))
      (λ h. rw (h, add-one) (find_range (suc a) n m (omega arith)))

  as_it_is : (r : Option ℕ) → option_map (λ (x : ℕ). x) r ≡ r
  as_it_is None = refl
  as_it_is (Some x) = refl

  pub found : (n : ℕ) (r : Option ℕ) → option_map (λ (x : ℕ). x) r ≡ find t (range_with_len 0 n) → r ≡ if_below n (first_from t 0 n)
  found n r e = sym (as_it_is r) ∙ e ∙ find_range 0 n n (omega arith)

-- marks
any_of : (u : Bool → Bool) → ((y : Bool) → u y ≡ y) → (l : List Bool) → list_any u l ≡ any (λ (b : Bool). b) l
any_of u same [] = refl
any_of u same (x ∷ l) = ap₂ ◌||◌ (same x) (any_of u same l)

pub some_marked : (u : Bool → Bool) → ((y : Bool) → u y ≡ y) → (d : List Bool) (n : ℕ) → n ≤ length d
    → list_any u (take n d) ≡ any (λ (c : ℕ). get_or d c false) (upto n)
some_marked u same d n h =
    let t : ℕ → Bool = λ (c : ℕ). get_or d c false in
    any_of u same (take n d)
    ∙ ap (any (λ (b : Bool). b)) (is_listed false t n (take n d) (length-take-le n d h) (λ i k. get_or-take n d i false k))
    ∙ any_listed t n

pub is_true : (y : Bool) → beq y true ≡ y
is_true true = refl
is_true false = refl

-- a number below n, or none
some_of : (b : Bool) (m : ℕ) → is_some (cond b (Some m) None) ≡ b
some_of true m = refl
some_of false m = refl

pub told_below : (n m : ℕ) (r : Option ℕ) (b : Bool) → b ≡ is_some r → r ≡ if_below n m → ltb m n ≡ b
told_below n m r b e k = sym (e ∙ ap is_some k ∙ some_of (ltb m n) m)

or_by : (b : Bool) (P : Type 0) (m n k : ℕ) (r s : Option ℕ) → ltb m k ≡ b → r ≡ cond b (Some m) None
    → (P → s ≡ if_below k n) → MatchOption r P (λ x. s ≡ Some x) → s ≡ if_below k (cond b m n)
or_by true P m n k r s t e f h = rw t (rw e at h)
or_by false P m n k r s t e f h = f (rw e at h)

pub or_first : (P : Type 0) (m n k : ℕ) (r s : Option ℕ) → r ≡ if_below k m
    → (P → s ≡ if_below k n) → MatchOption r P (λ x. s ≡ Some x) → s ≡ if_below k (cond (ltb m k) m n)
or_first P m n k r s = or_by (ltb m k) P m n k r s refl

module _ (n m : ℕ) (d : List Bool) (r : Option ℕ) (e : r ≡ if_below n m) where
  pub mark_some : (c : ℕ) → r ≡ Some c → with_mark n m d ≡ set d c true
  unfolding with_mark
  mark_some c k =
      by_bool (ltb m n)
      (λ (h : ltb m n ≡ true). let same : Some m ≡ Some c = sym (rw h at e) ∙ k in rw h (let i : m ≡ c = cc in rw i))
      (λ (h : ltb m n ≡ false). let none : None ≡ Some c = sym (rw h at e) ∙ k in absurd (cc))

  pub mark_none : r ≡ None → with_mark n m d ≡ d
  unfolding with_mark
  mark_none k =
      by_bool (ltb m n)
      (λ (h : ltb m n ≡ true). let none : Some m ≡ None = sym (rw h at e) ∙ k in absurd (cc))
      (λ (h : ltb m n ≡ false). rw h)
