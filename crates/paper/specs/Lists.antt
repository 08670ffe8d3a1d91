-- Lists by tests: what the definitions of every layer are made of.
-- `from a n` and `upto n` count; `any`, `all`, `leading`, `keep` go by a test; `each` joins what every element gives;
-- `only b x` is x alone or nothing; `same_by` is equality of lists by a test of their elements.
use Rattle.std.specs.Prelude.{ℕ, zero, suc, Bool, true, false, cond, ◌&&◌, ◌||◌, List, [], ◌∷◌, ◌++◌, eqb}

-- a, a + 1, .. : n numbers
abbrev pub from : ℕ → ℕ → List ℕ
from a zero = []
from a (suc n) = a ∷ from (suc a) n

-- the numbers below n
abbrev pub upto : ℕ → List ℕ
upto n = from 0 n

module _ {ℓ} {A : Type ℓ} where
  abbrev pub any : (A → Bool) → List A → Bool
  any p [] = false
  any p (x ∷ l) = p x || any p l

  abbrev pub all : (A → Bool) → List A → Bool
  all p [] = true
  all p (x ∷ l) = p x && all p l

  -- how many stand before the first that fails the test
  abbrev pub leading : (A → Bool) → List A → ℕ
  leading p [] = 0
  leading p (x ∷ l) = cond (p x) (suc (leading p l)) 0

  -- x alone, or nothing
  abbrev pub only : Bool → A → List A
  only true x = x ∷ []
  only false x = []

  abbrev pub keep : (A → Bool) → List A → List A
  keep p [] = []
  keep p (x ∷ l) = only (p x) x ++ keep p l

  abbrev pub same_by : (A → A → Bool) → List A → List A → Bool
  same_by e [] [] = true
  same_by e [] (y ∷ m) = false
  same_by e (x ∷ l) [] = false
  same_by e (x ∷ l) (y ∷ m) = e x y && same_by e l m

  abbrev pub each {κ} : {B : Type κ} → (A → List B) → List A → List B
  each f [] = []
  each f (x ∷ l) = f x ++ each f l

-- x stands in the list
abbrev pub member : ℕ → List ℕ → Bool
member x l = any (λ (y : ℕ). eqb x y) l
