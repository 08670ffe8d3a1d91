-- Laws of the lists that `from`, `upto`, `each` and `keep` make, as lists: the last number, `each` over `++`, what stands at a place, and that tests
-- or functions which agree on the members make the same list. Follows from the definitions by induction on lists.
use Prim.Native.Nat.{ℕ, zero, suc, ◌+◌, ◌<◌}
use native.Mathlib.Nat.{zero-add}
use native.Mathlib.Omega.{arith}
use mathlib.Core.Path.{◌≡◌, refl, sym, ap, ap₂, ◌∙◌}
use mathlib.Core.Bool.{Bool, false, ◌||◌}
use mathlib.Core.List.{List, [], ◌∷◌, ◌++◌, map, append_assoc, Memᴰ}
use lib.ListN.{length, get_or}
use Rattle.paper.specs.Lists.{from, upto, any, only, keep, each}
use Rattle.paper.proofs.base.Lists.{cons_eq}

-- one number more
pub from_snoc : (a n : ℕ) → from a (suc n) ≡ from a n ++ ((a + n) ∷ [])
from_snoc a zero = cons_eq (omega arith) refl
from_snoc a (suc n) = cons_eq refl (from_snoc (suc a) n ∙ ap (λ (x : ℕ). from (suc a) n ++ (x ∷ [])) (omega arith))

pub upto_snoc : (n : ℕ) → upto (suc n) ≡ upto n ++ (n ∷ [])
upto_snoc n = from_snoc 0 n ∙ ap (λ (x : ℕ). upto n ++ (x ∷ [])) (zero-add n)

-- what stands at a place
get_or_map_from : {P : Type 0} (h : ℕ → P) (d : P) (a n i : ℕ) → i < n → get_or (map h (from a n)) i d ≡ h (a + i)
get_or_map_from h d a zero i k = absurd (omega arith)
get_or_map_from h d a (suc n) zero k = ap h (omega arith)
get_or_map_from h d a (suc n) (suc i) k = get_or_map_from h d (suc a) n i (omega arith) ∙ ap h (omega arith)

pub get_or_map_upto : {P : Type 0} (h : ℕ → P) (d : P) (n i : ℕ) → i < n → get_or (map h (upto n)) i d ≡ h i
get_or_map_upto h d n i k = get_or_map_from h d 0 n i k ∙ ap h (omega arith)

pub get_or_mem {ℓ} : {A : Type ℓ} (l : List A) (d : A) (i : ℕ) → i < length l → Memᴰ (get_or l i d) l
get_or_mem [] d i h = absurd (omega arith)
get_or_mem (x ∷ l) d zero h = Memᴰ.head refl
get_or_mem (x ∷ l) d (suc i) h = Memᴰ.tail (get_or_mem l d i (omega arith))

-- lists by tests that agree on the members
module _ {ℓ} {A : Type ℓ} where
  pub any_same : (f g : A → Bool) (l : List A) → ((x : A) → Memᴰ x l → f x ≡ g x) → any f l ≡ any g l
  any_same f g [] h = refl
  any_same f g (x ∷ l) h = ap₂ ◌||◌ (h x (Memᴰ.head refl)) (any_same f g l (λ y d. h y (Memᴰ.tail d)))

  pub keep_same : (f g : A → Bool) (l : List A) → ((x : A) → Memᴰ x l → f x ≡ g x) → keep f l ≡ keep g l
  keep_same f g [] h = refl
  keep_same f g (x ∷ l) h =
      ap₂ (λ (b : Bool) (m : List A). only b x ++ m) (h x (Memᴰ.head refl)) (keep_same f g l (λ y d. h y (Memᴰ.tail d)))

  pub keep_none : (p : A → Bool) (l : List A) → ((x : A) → p x ≡ false) → keep p l ≡ []
  keep_none p [] h = refl
  keep_none p (x ∷ l) h = rw (h x) (keep_none p l h)

module _ {ℓ κ} {A : Type ℓ} {B : Type κ} (f : A → List B) where
  pub each_append : (l m : List A) → each f (l ++ m) ≡ each f l ++ each f m
  each_append [] m = refl
  each_append (x ∷ l) m = rw (each_append l m) (sym (append_assoc (f x) (each f l) (each f m)))

  pub each_same : (g : A → List B) (l : List A) → ((x : A) → Memᴰ x l → f x ≡ g x) → each f l ≡ each g l
  each_same g [] h = refl
  each_same g (x ∷ l) h = ap₂ ◌++◌ (h x (Memᴰ.head refl)) (each_same g l (λ y d. h y (Memᴰ.tail d)))
