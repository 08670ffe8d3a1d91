-- Laws of tests. That a test passes is stated as `b ≡ true`, that it fails as `b ≡ false`.
-- Cases on a test that keep its equation; `&&`, `||`, `not`; equality and order of numbers against their tests.
-- Follows from the tables of the Boolean operations and from `lib.Dec`.
use Prim.Native.Nat.{ℕ, suc, ◌≤◌, ◌<◌}
use native.Mathlib.Omega.{arith}
use mathlib.Core.Path.{◌≡◌, refl, sym}
use mathlib.Core.Logic.{◌⊎◌, inl, inr}
use mathlib.Core.Bool.{Bool, true, false, cond, not, ◌&&◌, ◌||◌, true≢false}
use lib.Dec.{T, leb, ltb, eqb, leb→le, le→leb, nleb→lt, nltb→le, eqb→eq, eqb_refl}

-- by cases on a test, with what the test says
pub by_bool {κ} : {C : Type κ} (b : Bool) → (b ≡ true → C) → (b ≡ false → C) → C
by_bool true f g = f refl
by_bool false f g = g refl

-- what holds of both arms, each under its test, holds of `cond`
pub cond_by {ℓ κ} : {A : Type ℓ} (P : A → Type κ) (b : Bool) {x y : A} → (b ≡ true → P x) → (b ≡ false → P y) → P (cond b x y)
cond_by P true f g = f refl
cond_by P false f g = g refl

pub cond_true {ℓ} : {A : Type ℓ} (b : Bool) (x y : A) → b ≡ true → cond b x y ≡ x
cond_true b x y e = rw e

pub cond_false {ℓ} : {A : Type ℓ} (b : Bool) (x y : A) → b ≡ false → cond b x y ≡ y
cond_false b x y e = rw e

-- what two different constructors would come to
pub never : ◌≡◌ {A = ℕ} 0 1 → ⊥
never z = omega arith

-- no test does both
pub true_false : {b : Bool} → b ≡ true → b ≡ false → ⊥
true_false {b} t f = true≢false (rw t at f)

-- a test that does not pass fails
pub not_true : (b : Bool) → (b ≡ true → ⊥) → b ≡ false
not_true true n = absurd (n refl)
not_true false n = refl

-- two tests that pass together are the same
pub same_tests : (a b : Bool) → (a ≡ true → b ≡ true) → (b ≡ true → a ≡ true) → a ≡ b
same_tests true b f g = sym (f refl)
same_tests false true f g = g refl
same_tests false false f g = refl

-- not
pub not_is_true : {b : Bool} → not b ≡ true → b ≡ false
not_is_true {b = true} e = absurd (true_false e refl)
not_is_true {b = false} e = refl

pub not_is_false : {b : Bool} → not b ≡ false → b ≡ true
not_is_false {b = true} e = refl
not_is_false {b = false} e = absurd (true_false refl e)

pub true_not : {b : Bool} → b ≡ true → not b ≡ false
true_not {b} e = rw e

pub false_not : {b : Bool} → b ≡ false → not b ≡ true
false_not {b} e = rw e

-- and
pub and_left : (a b : Bool) → a && b ≡ true → a ≡ true
and_left true b e = refl
and_left false b e = e

pub and_right : (a b : Bool) → a && b ≡ true → b ≡ true
and_right true b e = e
and_right false b e = absurd (true_false e refl)

pub both_true : {a b : Bool} → a ≡ true → b ≡ true → a && b ≡ true
both_true {a} {b} p q = rw p q

pub left_false : (a b : Bool) → a ≡ false → a && b ≡ false
left_false a b e = rw e

pub right_false : (a b : Bool) → b ≡ false → a && b ≡ false
right_false true b e = e
right_false false b e = refl

-- or
pub or_is_true : (a b : Bool) → a || b ≡ true → (a ≡ true) ⊎ (b ≡ true)
or_is_true true b e = inl refl
or_is_true false b e = inr e

pub left_true : (a b : Bool) → a ≡ true → a || b ≡ true
left_true a b e = rw e

pub right_true : (a b : Bool) → b ≡ true → a || b ≡ true
right_true true b e = refl
right_true false b e = e

pub or_left_false : (a b : Bool) → a || b ≡ false → a ≡ false
or_left_false true b e = e
or_left_false false b e = refl

pub or_right_false : (a b : Bool) → a || b ≡ false → b ≡ false
or_right_false true b e = absurd (true_false refl e)
or_right_false false b e = e

pub both_false : {a b : Bool} → a ≡ false → b ≡ false → a || b ≡ false
both_false {a} {b} p q = rw p q

-- `lib.Dec` states a test as a type
T_true : (b : Bool) → T b → b ≡ true
T_true true t = refl
T_true false t = absurd t

true_T : (b : Bool) → b ≡ true → T b
true_T true e = tt
true_T false e = absurd (true_false e refl)

T_not_false : (b : Bool) → b ≡ false → T (not b)
T_not_false true e = absurd (true_false refl e)
T_not_false false e = tt

-- order of numbers
pub leb_true : (m n : ℕ) → leb m n ≡ true → m ≤ n
leb_true m n e = leb→le m n (true_T (leb m n) e)

pub le_leb : (m n : ℕ) → m ≤ n → leb m n ≡ true
le_leb m n h = T_true (leb m n) (le→leb m n h)

pub leb_false : (m n : ℕ) → leb m n ≡ false → n < m
leb_false m n e = nleb→lt m n (T_not_false (leb m n) e)

pub lt_leb : (m n : ℕ) → n < m → leb m n ≡ false
lt_leb m n h = not_true (leb m n) (λ e. let k : m ≤ n = leb_true m n e in omega arith)

pub ltb_true : (m n : ℕ) → ltb m n ≡ true → m < n
ltb_true m n e = leb_true (suc m) n e

pub lt_ltb : (m n : ℕ) → m < n → ltb m n ≡ true
lt_ltb m n h = le_leb (suc m) n h

pub ltb_false : (m n : ℕ) → ltb m n ≡ false → n ≤ m
ltb_false m n e = nltb→le m n (T_not_false (ltb m n) e)

pub le_ltb : (m n : ℕ) → n ≤ m → ltb m n ≡ false
le_ltb m n h = not_true (ltb m n) (λ e. let k : m < n = ltb_true m n e in omega arith)

-- equality of numbers
pub eqb_true : (m n : ℕ) → eqb m n ≡ true → m ≡ n
eqb_true m n e = eqb→eq m n (true_T (eqb m n) e)

pub eqb_same : (n : ℕ) → eqb n n ≡ true
eqb_same n = T_true (eqb n n) (eqb_refl n)

pub eq_eqb : (m n : ℕ) → m ≡ n → eqb m n ≡ true
eq_eqb m n e = rw e (eqb_same n)

pub eqb_false : (m n : ℕ) → eqb m n ≡ false → m ≡ n → ⊥
eqb_false m n f e = true_false (eq_eqb m n e) f

pub neq_eqb : (m n : ℕ) → (m ≡ n → ⊥) → eqb m n ≡ false
neq_eqb m n d = not_true (eqb m n) (λ e. d (eqb_true m n e))

pub eqb_symmetric : (m n : ℕ) → eqb m n ≡ eqb n m
eqb_symmetric m n =
    same_tests (eqb m n) (eqb n m) (λ e. eq_eqb n m (sym (eqb_true m n e))) (λ e. eq_eqb m n (sym (eqb_true n m e)))
