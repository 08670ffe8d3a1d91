-- Laws of lists by tests: what it says of the members that a test over a list passes or fails; the members of the lists that
-- `only`, `keep`, `each`, `map`, `from`, `upto` make; equality of lists by `same_by`; lists without repetition; the pigeonhole.
-- Membership is `List.Memᴰ` of mathlib, length the native one of `lib.ListN`. Follows from the definitions by induction on lists.
use Prim.Native.Nat.{ℕ, zero, suc, ◌+◌, ◌≤◌, ◌<◌, zero-le, suc-le-suc}
use native.Mathlib.Omega.{arith}
use mathlib.Core.Path.{◌≡◌, refl, sym, ap, ◌∙◌, subst}
use mathlib.Core.Logic.{◌⊎◌, inl, inr, ⊎_elim, ⊎_map}
use mathlib.Core.Bool.{Bool, true, false, ◌&&◌, ◌||◌, or_assoc, and_assoc}
use mathlib.Core.List.{List, [], ◌∷◌, ◌++◌, map}
use mathlib.Core.List.{Memᴰ}
use lib.Dec.{eqb}
use lib.ListN.{length}
use Rattle.paper.specs.Lists.{from, upto, any, all, only, keep, same_by, each, member}
use Rattle.paper.proofs.base.Tests.{by_bool, true_false, eqb_true, eqb_false, eq_eqb, and_left, and_right, both_true}
use Rattle.paper.proofs.base.Tests.{or_is_true, left_true, right_true, or_left_false, or_right_false, both_false}

pub cons_eq {ℓ} : {A : Type ℓ} {x y : A} {l m : List A} → x ≡ y → l ≡ m → x ∷ l ≡ y ∷ m
cons_eq p q = λ i. p i ∷ q i

module _ {ℓ} {A : Type ℓ} where
  -- what holds of the head and of each member of the rest holds of each member
  pub mem_cons_by {κ} : (P : A → Type κ) {y : A} {l : List A} → P y → ((x : A) → Memᴰ x l → P x)
      → (x : A) → Memᴰ x (y ∷ l) → P x
  mem_cons_by P h t x (mathlib.Core.List.Memᴰ.head e) = subst P (sym e) h
  mem_cons_by P h t x (mathlib.Core.List.Memᴰ.tail d) = t x d

  pub mem_length : {x : A} {l : List A} → Memᴰ x l → 0 < length l
  mem_length (mathlib.Core.List.Memᴰ.head e) = suc-le-suc zero-le
  mem_length (mathlib.Core.List.Memᴰ.tail d) = suc-le-suc zero-le

  -- any: a member passes
  pub any_true : (p : A → Bool) (l : List A) → any p l ≡ true → (x : A) × Memᴰ x l × (p x ≡ true)
  any_true p [] e = absurd (true_false e refl)
  any_true p (y ∷ l) e =
      ⊎_elim
      (λ h. (y, mathlib.Core.List.Memᴰ.head refl, h))
      (λ h. let r = any_true p l h in (r.0, mathlib.Core.List.Memᴰ.tail r.1, r.2))
      (or_is_true (p y) (any p l) e)

  pub mem_any : (p : A → Bool) {x : A} (l : List A) → Memᴰ x l → p x ≡ true → any p l ≡ true
  mem_any p (y ∷ l) (mathlib.Core.List.Memᴰ.head h) e = left_true (p y) (any p l) (rw h at e)
  mem_any p (y ∷ l) (mathlib.Core.List.Memᴰ.tail d) e = right_true (p y) (any p l) (mem_any p l d e)
  mem_any p [] x3 e = elim x3 [ ]

  -- any fails: every member fails
  pub any_false : (p : A → Bool) {x : A} (l : List A) → any p l ≡ false → Memᴰ x l → p x ≡ false
  any_false p (y ∷ l) e (mathlib.Core.List.Memᴰ.head h) = rw h (or_left_false (p y) (any p l) e)
  any_false p (y ∷ l) e (mathlib.Core.List.Memᴰ.tail d) = any_false p l (or_right_false (p y) (any p l) e) d
  any_false p [] e x3 = elim x3 [ ]

  pub none_any : (p : A → Bool) (l : List A) → ((x : A) → Memᴰ x l → p x ≡ false) → any p l ≡ false
  none_any p [] h = refl
  none_any p (y ∷ l) h = both_false (h y (mathlib.Core.List.Memᴰ.head refl)) (none_any p l (λ x d. h x (mathlib.Core.List.Memᴰ.tail d)))

  pub any_append : (p : A → Bool) (l m : List A) → any p (l ++ m) ≡ (any p l || any p m)
  any_append p [] m = refl
  any_append p (x ∷ l) m = ap (λ (b : Bool). p x || b) (any_append p l m) ∙ sym (or_assoc (p x) (any p l) (any p m))

  -- all: every member passes
  pub all_true : (p : A → Bool) {x : A} (l : List A) → all p l ≡ true → Memᴰ x l → p x ≡ true
  all_true p (y ∷ l) e (mathlib.Core.List.Memᴰ.head h) = rw h (and_left (p y) (all p l) e)
  all_true p (y ∷ l) e (mathlib.Core.List.Memᴰ.tail d) = all_true p l (and_right (p y) (all p l) e) d
  all_true p [] e x3 = elim x3 [ ]

  pub every_all : (p : A → Bool) (l : List A) → ((x : A) → Memᴰ x l → p x ≡ true) → all p l ≡ true
  every_all p [] h = refl
  every_all p (y ∷ l) h = both_true (h y (mathlib.Core.List.Memᴰ.head refl)) (every_all p l (λ x d. h x (mathlib.Core.List.Memᴰ.tail d)))

  pub all_append : (p : A → Bool) (l m : List A) → all p (l ++ m) ≡ (all p l && all p m)
  all_append p [] m = refl
  all_append p (x ∷ l) m = ap (λ (b : Bool). p x && b) (all_append p l m) ∙ sym (and_assoc (p x) (all p l) (all p m))

  -- only: x alone, under its test
  pub mem_only : {x : A} (b : Bool) {y : A} → Memᴰ x (only b y) → (b ≡ true) × (x ≡ y)
  mem_only true (mathlib.Core.List.Memᴰ.head e) = (refl, e)
  mem_only true (mathlib.Core.List.Memᴰ.tail d) = absurd (mathlib.Core.List.Memᴰ.not-nil d)
  mem_only false d = absurd (mathlib.Core.List.Memᴰ.not-nil d)

  pub only_mem : (b : Bool) (y : A) → b ≡ true → Memᴰ y (only b y)
  only_mem b y e = rw e (mathlib.Core.List.Memᴰ.head refl)

  pub length_only : (b : Bool) (x : A) → length (only b x) ≤ 1
  length_only true x = omega arith
  length_only false x = omega arith

  -- keep: the members that pass
  pub mem_keep : (p : A → Bool) {x : A} (l : List A) → Memᴰ x (keep p l) → Memᴰ x l × (p x ≡ true)
  mem_keep p [] d = absurd (mathlib.Core.List.Memᴰ.not-nil d)
  mem_keep p {x} (y ∷ l) d =
      ⊎_elim
      (λ (h : Memᴰ x (only (p y) y)). let r = mem_only (p y) h in (mathlib.Core.List.Memᴰ.head r.1, rw r.1 r.0))
      (λ (h : Memᴰ x (keep p l)). let r = mem_keep p l h in (mathlib.Core.List.Memᴰ.tail r.0, r.1))
      (mathlib.Core.List.Memᴰ.append_cases (only (p y) y) d)

  pub keep_mem : (p : A → Bool) {x : A} (l : List A) → Memᴰ x l → p x ≡ true → Memᴰ x (keep p l)
  keep_mem p {x} (y ∷ l) (mathlib.Core.List.Memᴰ.head h) e =
      mathlib.Core.List.Memᴰ.append_left (keep p l) (mathlib.Core.List.Memᴰ.cast h (only_mem (p y) y (rw h at e)))
  keep_mem p {x} (y ∷ l) (mathlib.Core.List.Memᴰ.tail d) e = mathlib.Core.List.Memᴰ.append_right (only (p y) y) (keep_mem p l d e)
  keep_mem p {x = x} [] x3 e = elim x3 [ ]

module _ {ℓ κ} {A : Type ℓ} {B : Type κ} where
  -- each: a member of what some member gives
  pub mem_each : (f : A → List B) {y : B} (l : List A) → Memᴰ y (each f l) → (x : A) × Memᴰ x l × Memᴰ y (f x)
  mem_each f [] d = absurd (mathlib.Core.List.Memᴰ.not-nil d)
  mem_each f {y} (x ∷ l) d =
      ⊎_elim
      (λ (h : Memᴰ y (f x)). (x, mathlib.Core.List.Memᴰ.head refl, h))
      (λ (h : Memᴰ y (each f l)). let r = mem_each f l h in (r.0, mathlib.Core.List.Memᴰ.tail r.1, r.2))
      (mathlib.Core.List.Memᴰ.append_cases (f x) d)

  pub each_mem : (f : A → List B) {x : A} {y : B} (l : List A) → Memᴰ x l → Memᴰ y (f x) → Memᴰ y (each f l)
  each_mem f {y = y} (z ∷ l) (mathlib.Core.List.Memᴰ.head e) h = mathlib.Core.List.Memᴰ.append_left (each f l) (subst (λ (u : A). Memᴰ y (f u)) e h)
  each_mem f (z ∷ l) (mathlib.Core.List.Memᴰ.tail d) h = mathlib.Core.List.Memᴰ.append_right (f z) (each_mem f l d h)
  each_mem f {y = y} [] x3 h = elim x3 [ ]

  pub mem_map : (f : A → B) {y : B} (l : List A) → Memᴰ y (map f l) → (x : A) × Memᴰ x l × (y ≡ f x)
  mem_map f (x ∷ l) (mathlib.Core.List.Memᴰ.head e) = (x, mathlib.Core.List.Memᴰ.head refl, e)
  mem_map f (x ∷ l) (mathlib.Core.List.Memᴰ.tail d) = let r = mem_map f l d in (r.0, mathlib.Core.List.Memᴰ.tail r.1, r.2)
  mem_map f {y = y} [] x' = elim x' [ ]

  pub map_mem : (f : A → B) {x : A} {l : List A} → Memᴰ x l → Memᴰ (f x) (map f l)
  map_mem f (mathlib.Core.List.Memᴰ.head e) = mathlib.Core.List.Memᴰ.head (ap f e)
  map_mem f (mathlib.Core.List.Memᴰ.tail d) = mathlib.Core.List.Memᴰ.tail (map_mem f d)

  pub map_append : (f : A → B) (l m : List A) → map f (l ++ m) ≡ map f l ++ map f m
  map_append f [] m = refl
  map_append f (x ∷ l) m = cons_eq refl (map_append f l m)

-- from, upto: a, a + 1, ..
pub mem_from : {c : ℕ} (a n : ℕ) → Memᴰ c (from a n) → (a ≤ c) × (c < a + n)
mem_from {c} a (suc n) (mathlib.Core.List.Memᴰ.head e) = (omega (arith, e), omega (arith, e))
mem_from {c} a (suc n) (mathlib.Core.List.Memᴰ.tail d) = let r = mem_from (suc a) n d in (omega (arith, r), omega (arith, r))
mem_from {c = c} a zero x' = elim x' [ ]

pub from_mem : {c : ℕ} (a n : ℕ) → a ≤ c → c < a + n → Memᴰ c (from a n)
from_mem {c} a zero h k = absurd (omega arith)
from_mem {c} a (suc n) h k =
    by_bool (eqb c a)
    (λ e. mathlib.Core.List.Memᴰ.head (eqb_true c a e))
    (λ (e : eqb c a ≡ false).
    let other : c ≡ a → ⊥ = eqb_false c a e in
    mathlib.Core.List.Memᴰ.tail (from_mem (suc a) n (omega arith) (omega arith)))

pub mem_upto : {c : ℕ} (n : ℕ) → Memᴰ c (upto n) → c < n
mem_upto n d = let r = mem_from 0 n d in omega (arith, r)

pub upto_mem : {c : ℕ} (n : ℕ) → c < n → Memᴰ c (upto n)
upto_mem {c} n h = from_mem 0 n (omega arith) (omega arith)

-- member: the test of membership for numbers
pub member_true : (x : ℕ) (l : List ℕ) → member x l ≡ true → Memᴰ x l
member_true x l e = let r = any_true (λ (y : ℕ). eqb x y) l e in mathlib.Core.List.Memᴰ.cast (eqb_true x r.0 r.2) r.1

pub mem_member : (x : ℕ) (l : List ℕ) → Memᴰ x l → member x l ≡ true
mem_member x l d = mem_any (λ (y : ℕ). eqb x y) l d (eq_eqb x x refl)

module _ {ℓ} {A : Type ℓ} where
  -- same_by: equality, if the elements' test is
  pub same_by_equal : (e : A → A → Bool) → ((x y : A) → e x y ≡ true → x ≡ y) → (l m : List A) → same_by e l m ≡ true → l ≡ m
  same_by_equal e h [] [] t = refl
  same_by_equal e h [] (y ∷ m) t = absurd (true_false t refl)
  same_by_equal e h (x ∷ l) [] t = absurd (true_false t refl)
  same_by_equal e h (x ∷ l) (y ∷ m) t =
      cons_eq (h x y (and_left (e x y) (same_by e l m) t)) (same_by_equal e h l m (and_right (e x y) (same_by e l m) t))

  pub same_by_same : (e : A → A → Bool) → ((x : A) → e x x ≡ true) → (l : List A) → same_by e l l ≡ true
  same_by_same e h [] = refl
  same_by_same e h (x ∷ l) = both_true (h x) (same_by_same e h l)

  -- a list without repetition: no element is a member of the rest
  pub data NoDup : List A → Type ℓ where
    none : NoDup []
    more : {x : A} {l : List A} → (Memᴰ x l → ⊥) → NoDup l → NoDup (x ∷ l)

  pub nodup_append : {l m : List A} → NoDup l → NoDup m → ((x : A) → Memᴰ x l → Memᴰ x m → ⊥) → NoDup (l ++ m)
  nodup_append none nm h = nm
  nodup_append (more {x = x} {l = l} n nl) nm h =
      more
      (λ d. ⊎_elim n (h x (mathlib.Core.List.Memᴰ.head refl)) (mathlib.Core.List.Memᴰ.append_cases l d))
      (nodup_append nl nm (λ y d. h y (mathlib.Core.List.Memᴰ.tail d)))

  pub nodup_snoc : {l : List A} {x : A} → NoDup l → (Memᴰ x l → ⊥) → NoDup (l ++ (x ∷ []))
  nodup_snoc {l} {x} nl n = nodup_append nl (more mathlib.Core.List.Memᴰ.not-nil none) (λ y d e. n (last y d e))
    where
      last : (y : A) → Memᴰ y l → Memᴰ y (x ∷ []) → Memᴰ x l
      last y d (mathlib.Core.List.Memᴰ.head e) = mathlib.Core.List.Memᴰ.cast (sym e) d
      last y d (mathlib.Core.List.Memᴰ.tail e) = absurd (mathlib.Core.List.Memᴰ.not-nil e)

  pub nodup_only : (b : Bool) (x : A) → NoDup (only b x)
  nodup_only true x = more mathlib.Core.List.Memᴰ.not-nil none
  nodup_only false x = none

  pub nodup_keep : (p : A → Bool) {l : List A} → NoDup l → NoDup (keep p l)
  nodup_keep p none = none
  nodup_keep p (more {x = x} {l = l} n nl) =
      nodup_append (nodup_only (p x) x) (nodup_keep p nl)
      (λ y d k. n (mathlib.Core.List.Memᴰ.cast (sym (mem_only (p x) d).1) (mem_keep p l k).0))

  -- the rest without one member
  without : {x : A} (m : List A) → Memᴰ x m → List A
  without (y ∷ m) (mathlib.Core.List.Memᴰ.head e) = m
  without (y ∷ m) (mathlib.Core.List.Memᴰ.tail d) = y ∷ without m d
  without [] x'' = elim x'' [ ]

  length_without : {x : A} (m : List A) (d : Memᴰ x m) → suc (length (without m d)) ≡ length m
  unfolding without
  length_without (y ∷ m) (mathlib.Core.List.Memᴰ.head e) = refl
  length_without (y ∷ m) (mathlib.Core.List.Memᴰ.tail d) = ap suc (length_without m d)
  length_without [] d = elim d [ ]

  mem_without : {x y : A} (m : List A) (d : Memᴰ x m) → Memᴰ y m → (y ≡ x) ⊎ Memᴰ y (without m d)
  unfolding without
  mem_without (z ∷ m) (mathlib.Core.List.Memᴰ.head e) (mathlib.Core.List.Memᴰ.head f) = inl (f ∙ sym e)
  mem_without (z ∷ m) (mathlib.Core.List.Memᴰ.head e) (mathlib.Core.List.Memᴰ.tail k) = inr k
  mem_without (z ∷ m) (mathlib.Core.List.Memᴰ.tail d) (mathlib.Core.List.Memᴰ.head f) = inr (mathlib.Core.List.Memᴰ.head f)
  mem_without (z ∷ m) (mathlib.Core.List.Memᴰ.tail d) (mathlib.Core.List.Memᴰ.tail k) = ⊎_map (λ e. e) mathlib.Core.List.Memᴰ.tail (mem_without m d k)
  mem_without {y = y} [] d _ = elim d [ ]

  -- the pigeonhole: a list without repetition, all of whose members stand in another, is not longer
  pub pigeonhole : {l : List A} (m : List A) → NoDup l → ((x : A) → Memᴰ x l → Memᴰ x m) → length l ≤ length m
  pigeonhole m none h = zero-le
  pigeonhole m (more {x = x} {l = l} n nl) h =
      let d : Memᴰ x m = h x (mathlib.Core.List.Memᴰ.head refl) in
      let k : length l ≤ length (without m d) =
      pigeonhole (without m d) nl
      (λ y i. ⊎_elim (λ (e : y ≡ x). absurd (n (mathlib.Core.List.Memᴰ.cast (sym e) i))) (λ j. j) (mem_without m d (h y (mathlib.Core.List.Memᴰ.tail i)))) in
      omega (arith, k, length_without m d)

  -- where one of the other is not among them, it is shorter
  pub pigeonhole_lt : {l : List A} (m : List A) {x : A} → NoDup l → ((y : A) → Memᴰ y l → Memᴰ y m)
      → Memᴰ x m → (Memᴰ x l → ⊥) → length l < length m
  pigeonhole_lt {l} m {x} nl h k n = pigeonhole m (more n nl) (mem_cons_by (λ (z : A). Memᴰ z m) k h)

pub length_from : (a n : ℕ) → length (from a n) ≡ n
length_from a zero = refl
length_from a (suc n) = ap suc (length_from (suc a) n)
